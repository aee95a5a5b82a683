use Rattle.std.proofs.Common.{◌≡◌, [], length, take, arith}
use Rattle.rhai_scope.specs.Index.{names_of}
use Rattle.rhai_scope.proofs.Indexed.{all_listed, length_kept, unlisted_end, walked_with}
use Rattle.rhai_scope.proofs.index.Index.rewind_listed.Goals as goal

pub returns-then-size-min : goal.returns-then-size-min
returns-then-size-min c =
    let x = c.args.self.now in
    let es = c.args.entries.now in
    let size = c.args.size in
    let cleared = c.clear.new.self in
    let kept : size ≡ length (names_of (take size es)) = length_kept x es c.requires.index size (omega arith) in
    walked_with cleared.indexed cleared.places [] (names_of (take size es)) c.clear.ensures (omega arith)

pub returns : goal.returns
returns c =
    let x = c.args.self.now in
    let es = c.args.entries.now in
    let size = c.args.size in
    all_listed size c.pop_all.new.self (names_of (take size es)) (length_kept x es c.requires.index size (omega arith)) (c.pop_all.ensures (names_of (take size es)) (unlisted_end x es c.requires.index size (omega arith)))
