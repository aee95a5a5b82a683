use Rattle.std.proofs.Common.{refl, ap, string_bytes}
use Rattle.rhai_value.specs.Tree.{fresh, unit}
use Rattle.rhai_cast.specs.Makers.{keys_alone}
use Rattle.rhai_cast.proofs.Lasts.{put_none, put_more, put_all}
use Rattle.rhai_cast.proofs.makers.map_of_hash_set.Goals as goal

pub loop-key-init : goal.loop-key-init
loop-key-init c = put_none _ _ _ (ap keys_alone c.into_iter-key-iterator.ensures.into_iter_gives.0) c.new-map.ensures

pub loop-key-preserved : goal.loop-key-preserved
loop-key-preserved c =
    put_more (λ k. (string_bytes k, fresh unit)) c.loop-key.key-iterator c.next.new.self c.in-Some.key _ _ _ (fresh unit) c.loop-key.invariant
    c.in-Some.ensures.steps c.in_ok-put.ensures.put refl c.in_ok-put.ensures.rising

pub returns-clause-keys : goal.returns-clause-keys
returns-clause-keys c = put_all _ _ _ (ap keys_alone c.in-None.ensures.steps.0) c.loop-key.invariant
