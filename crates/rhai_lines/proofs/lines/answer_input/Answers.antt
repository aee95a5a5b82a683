use Rattle.std.proofs.Common.{take, refl}
use Rattle.std.proofs.lemmas.Result.{err_from_is_err_and, IfErr-weaker}
use Rattle.rhai_lines.proofs.Reaches.{reached_alike, reached_stop, reached_stop_within, reached_more, reached_written, reached_read, keeps_itself}
use Rattle.rhai_lines.proofs.lines.answer_input.Goals as goal
use Rattle.rhai_lines.proofs.lines.answer_input.Goals.{then-contains+in_ok-map_err, else-contains}

pub returns-in-Err-2-clause-fault : goal.returns-in-Err-2-clause-fault
returns-in-Err-2-clause-fault g c = λ _. reached_stop _ (g.R.Read.remaining c.loop-turn.reader) (g.W.Write.contents c.loop-turn.writer) c.loop-turn.invariant refl

pub returns-then-count-eq0-clause-fault : goal.returns-then-count-eq0-clause-fault
returns-then-count-eq0-clause-fault g c =
    IfErr-weaker c.finish.result _ _ (λ e f k. reached_stop _ (g.R.Read.remaining c.loop-turn.reader) (g.W.Write.contents c.finish.new.writer) c.loop-turn.invariant (f k)) c.finish.ensures.fault

pub returns-in_err-feed-clause-fault : goal.returns-in_err-feed-clause-fault
returns-in_err-feed-clause-fault g c =
    let p = err_from_is_err_and c.from_residual.result c.from_residual.ensures.1 in
    rw (p.1, p.2) (λ k. reached_stop_within _ (g.R.Read.remaining c.loop-turn.reader) (g.R.Read.remaining c.read.new.self) (take c.in-Ok.count c.read.new.buf) (g.W.Write.contents c.feed.new.writer) c.loop-turn.invariant c.in-Ok.ensures.bytes.0 (c.in_err-feed.ensures.fault k))

pub loop-turn-preserved : goal.loop-turn-preserved
loop-turn-preserved g c =
    let fed = reached_more (g.R.Read.remaining c.args.reader.now) (g.R.Read.remaining c.loop-turn.reader) (g.R.Read.remaining c.read.new.self) (take c.in-Ok.count c.read.new.buf) c.loop-turn.invariant c.in-Ok.ensures.bytes.0 c.in_ok-feed.ensures.fed in
    reached_alike (g.R.Read.remaining c.args.reader.now) (g.R.Read.remaining c.read.new.self) c.give_back.new.world (elim c.if-contains.branch [
      | then-contains+in_ok-map_err w ↦ rw w.writer-is (reached_written (g.R.Read.remaining c.args.reader.now) (g.R.Read.remaining c.read.new.self) (g.W.Write.contents w.flush.new.self) fed w.flush.ensures.bytes)
      | else-contains w ↦ rw w.writer-is fed
    ]) c.give_back.ensures

pub returns-clause-fault : goal.returns-clause-fault
returns-clause-fault g c = λ _. reached_stop _ (g.R.Read.remaining c.loop-turn.reader) (g.W.Write.contents c.loop-turn.writer) c.loop-turn.invariant refl

pub returns-in-Err-2-clause-read : goal.returns-in-Err-2-clause-read
returns-in-Err-2-clause-read g c =
    λ _. reached_read _ (g.R.Read.remaining c.loop-turn.reader) (g.R.Read.remaining c.read.new.self) (g.W.Write.contents c.loop-turn.writer) c.loop-turn.invariant c.in-Err-2.ensures.bytes refl

pub returns-clause-read : goal.returns-clause-read
returns-clause-read g c =
    λ _. reached_read _ (g.R.Read.remaining c.loop-turn.reader) (g.R.Read.remaining c.loop-turn.reader) (g.W.Write.contents c.loop-turn.writer) c.loop-turn.invariant (keeps_itself (g.R.Read.remaining c.loop-turn.reader)) refl
