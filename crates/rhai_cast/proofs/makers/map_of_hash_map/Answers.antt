use Rattle.std.proofs.Common.{ap, string_bytes}
use Rattle.rhai_cast.specs.Makers.{pairs}
use Rattle.rhai_cast.proofs.Lasts.{put_none, put_more, put_all}
use Rattle.rhai_cast.proofs.makers.map_of_hash_map.Goals as goal

pub loop-key-init : goal.loop-key-init
loop-key-init g c = put_none _ _ _ (ap (pairs g.T.Variant.tree) c.into_iter-key-iterator.ensures.into_iter_gives.0) c.new-map.ensures

pub loop-key-preserved : goal.loop-key-preserved
loop-key-preserved g c =
    put_more (λ e. (string_bytes e.0, g.T.Variant.tree e.1)) c.loop-key.key-iterator c.next.new.self (c.in-Some.key, c.in-Some.x) _ _ _ _ c.loop-key.invariant
    c.in-Some.ensures.steps c.in_ok-put.ensures.put c.in_ok-made.ensures c.in_ok-put.ensures.rising

pub returns-clause-entries : goal.returns-clause-entries
returns-clause-entries g c = put_all _ _ _ (ap (pairs g.T.Variant.tree) c.in-None.ensures.steps.0) c.loop-key.invariant
