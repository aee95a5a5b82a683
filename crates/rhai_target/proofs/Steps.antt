-- What the proofs share: the names that they take from the logic.
pub use Rattle.std.proofs.Common.{◌≡◌, [], ◌∷◌, Option, Some, refl, MutBor, Result, IfOk, IfErr, None, sym, subst, List}
pub use Rattle.std.proofs.raw_atomic.Walks.{proved, proved_at}
pub use base.Fraction.{full_share}
pub use base.Logic.{emp, id⊢, ent, via}
pub use base.Fml.{Lft, GName, ftrue, flft, Share}
pub use mir.Syntax.{named}
pub use contract.Monad.{fact, fact_i}
pub use contract.Running.{tables, Running}
pub use types.Tokens.{lft_new, lft_end}
pub use types.Kit.{‵, raw, ◌⊛◌, some, later, ◌$◌, ◌∵◌, !, qed, by, move, keep, drop, use0, use1, use2, use3, split, split3, join, fsplit, pick, await, rewrite, suffices, frame, given, group, fpick, feq_l}
pub use types.Run.{enter, of_opd, addr, stop, no_more, and_then, returns, fld}
pub use types.ByLocal.{alloc_all, pass_all, free_all, look_at, get, through, sets, lands_as, get_in}
pub use denote.Exit.{no, rest, yes}
pub use denote.Laws.{shows, Is}
pub use denote.Lend.{lends_again, comes_back, LentAgain}
pub use denote.Param.Laws.{Laws, of_field, row_shared}
pub use denote.Param.Shared.{mut_ref_shared}
pub use denote.Ref.{NamedLft, MutRef, mut_vals, mut_Tells}
pub use denote.RattleType.{RattleType}
pub use denote.Signature.{plain, mut_ref_to, named_lft}
pub use denote.Steps.{nothing, heard, peeks}
pub use denote.Struct.Field.{mut_ref_field}
pub use denote.Struct.Laws.{mut_ref_laws}
pub use denote.Follow.{follows_if}
pub use denote.Triple.Call.{calls_at}
pub use denote.Triple.Clauses.{Lasts, lasts, Clauses}
pub use denote.Triple.Spec.{triple_of}
pub use denote.Triple.Table.{framed}
pub use denote.Triple.Walked.{Stays, stay_dropped, Goes-spent_ref, ends_at, says, stay_ref, Goes-ref, walk_of, Goes-dropped}
pub use contract.Lifetimes.{Lfts}
pub use seplogic.Ra.Ura.{Ura}
pub use mir.Val.{Val}
pub use prog.Model.{Model}
pub use prog.Wired.{Wired}
pub use prog.Wp.{WpFn}
pub use types.Logic.{Logic}
pub use types.Part.{whole, sub}
pub use denote.Struct.Members.{Lone}
pub use denote.Triple.Statement.{Contract}
pub use Rattle.std.specs.Prelude.{OnOk, OnErr, IsOk, MatchOption}
