use Rattle.std.proofs.Common.{map, ◌++◌, refl, ap}
use Rattle.rhai_value.specs.Lists.{chunk_rows, joined, rows}
use Rattle.rhai_value.specs.declared.map.MapParts.{MapParts}
use Rattle.rhai_value.proofs.KeptKeys.{whole_same}
use Rattle.rhai_value.proofs.map.MapParts.past_all_memory.Goals as goal

pub returns : goal.returns
returns c =
    let p : MapParts = c.args.self.now in
    let q : MapParts = record p { first = c.reserve_exact.new.self } in
    record {
      rows = ap (λ es. rows es ++ joined (map chunk_rows p.rest.items)) c.reserve_exact.ensures.items;
      whole = whole_same p q c.reserve_exact.ensures.items refl refl c.requires;
      none = refl;
    }
