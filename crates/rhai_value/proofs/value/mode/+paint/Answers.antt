use Rattle.std.proofs.Common.{◌≡◌, ◌+◌, ◌*◌, ◌<◌, refl, map, drop, set, get_or, length-set, ap, arith, rules, sym, ◌∙◌}
use Rattle.std.proofs.lemmas.Grind.{common_steps}
use Rattle.std.proofs.lemmas.List.{get_or_default}
use Rattle.std.proofs.lemmas.List.Edits.{map_over_more}
use Rattle.rhai_value.specs.Falls.{nodes_joined}
use Rattle.rhai_value.specs.Rows.{fields_of}
use Rattle.rhai_value.specs.declared.map.Chunk.{Chunk}
use Rattle.rhai_value.specs.Lists.{chunk_rows, joined, row_of, rows, rows_of}
use Rattle.rhai_value.specs.RowWalks.{chunk_view, painted_chunk, painted_row}
use Rattle.rhai_value.specs.Tree.{paint, nodes_fields}
use Rattle.rhai_value.proofs.Paints.{fields_painted}
use Rattle.rhai_value.proofs.KeptKeys.{parts_painted, whole_painted}
use Rattle.rhai_value.proofs.RowWalks.{behind, same_behind, map_on, map_end, nodes_behind, nodes_behind_chunks, nodes_chunk}
use Rattle.rhai_value.proofs.value.mode.+paint.Goals as goal

pub paint_items-loop-item-preserved : goal.paint_items-loop-item-preserved
paint_items-loop-item-preserved t c = record {
  fewer = grind (arith, common_steps);
  painted = rw (c.paint_value.ensures ∙ ap (paint c.args.mode) (sym c.item-item.is)) (map_over_more (paint c.args.mode) _ _ _ _ (omega arith) c.loop-item.invariant.painted c.item-item.is);
}

pub paint_entries-loop-entry-preserved : goal.paint_entries-loop-entry-preserved
paint_entries-loop-entry-preserved t c =
    let i = c.loop-entry.invariant in
    let xs = c.loop-entry.entry-items in
    let old = c.args.entries.now.items in
    let n = c.loop-entry.entry-index in
    let x = get_or xs n c.entry-item.result in
    let is = get_or_default xs n c.entry-item.result x (omega arith) in
    let u = record x { value = c.paint_value.new.value } in
    let rest : drop (n + 1) (set xs n u) ≡ drop (n + 1) old = behind xs n u (omega arith) ∙ same_behind xs old n i.rest in
    record {
      on = map_on row_of (painted_row c.args.mode) xs old n x u i.on i.rest (omega arith) i.long is (ap (λ t. (x.key, t)) c.paint_value.ensures);
      rest = rest;
      long = length-set xs n u ∙ i.long;
      fewer = omega (arith, ap (λ ys. nodes_fields (fields_of (rows ys))) rest, nodes_behind old (n + 1));
    }

pub paint_entries-returns : goal.paint_entries-returns
paint_entries-returns t c =
    let i = c.loop-entry.invariant in
    map_end row_of (painted_row c.args.mode) c.loop-entry.entry-items c.args.entries.now.items c.loop-entry.entry-index c.args.entries.now.len i.on i.long (omega arith) (search rules)

pub paint_chunks-loop-chunk-preserved : goal.paint_chunks-loop-chunk-preserved
paint_chunks-loop-chunk-preserved t c =
    let i = c.loop-chunk.invariant in
    let xs = c.loop-chunk.chunk-items in
    let old = c.args.rest.now.items in
    let n = c.loop-chunk.chunk-index in
    let x = get_or xs n c.chunk-item.result in
    let is = get_or_default xs n c.chunk-item.result x (omega arith) in
    let u = record x { entries = c.paint_entries.new.entries } in
    let rest : drop (n + 1) (set xs n u) ≡ drop (n + 1) old = behind xs n u (omega arith) ∙ same_behind xs old n i.rest in
    record {
      on = map_on chunk_view (painted_chunk c.args.mode) xs old n x u i.on i.rest (omega arith) i.long is (ap (λ rs. (x.front, rs)) c.paint_entries.ensures);
      rest = rest;
      long = length-set xs n u ∙ i.long;
      fewer = omega (arith, ap (λ ys. nodes_fields (fields_of (joined (map chunk_rows ys)))) rest, nodes_behind_chunks old (n + 1));
    }

pub paint_chunks-returns : goal.paint_chunks-returns
paint_chunks-returns t c =
    let i = c.loop-chunk.invariant in
    map_end chunk_view (painted_chunk c.args.mode) c.loop-chunk.chunk-items c.args.rest.now.items c.loop-chunk.chunk-index c.args.rest.now.len i.on i.long (omega arith) (search rules)

pub paint_chunks-paint_entries-requires : goal.paint_chunks-paint_entries-requires
paint_chunks-paint_entries-requires t c =
    let xs = c.loop-chunk.chunk-items in
    let n = c.loop-chunk.chunk-index in
    let x : Chunk = get_or xs n c.chunk-item.result in
    let is : x ≡ get_or xs n x = get_or_default xs n c.chunk-item.result x (omega arith) in
    let started : 6 * nodes_fields (fields_of (joined (map chunk_rows c.args.rest.now.items))) + 2 ≡ t = c.decreases in
    let falls : 6 * nodes_fields (fields_of (chunk_rows x)) + 1 < t = omega (arith, c.loop-chunk.invariant.fewer, nodes_chunk xs n x (omega arith) is) in
    (falls, tt)

pub paint_parts-paint_entries-requires : goal.paint_parts-paint_entries-requires
paint_parts-paint_entries-requires t c =
    let p = c.args.parts.now in
    let started : 6 * nodes_fields (fields_of (rows_of p)) + 3 ≡ t = c.decreases in
    let falls : 6 * nodes_fields (fields_of (rows p.first.items)) + 1 < t = omega (arith, nodes_joined (rows p.first.items) (joined (map chunk_rows p.rest.items))) in
    (falls, tt)

pub paint_parts-paint_chunks-requires : goal.paint_parts-paint_chunks-requires
paint_parts-paint_chunks-requires t c =
    let p = c.args.parts.now in
    let started : 6 * nodes_fields (fields_of (rows_of p)) + 3 ≡ t = c.decreases in
    let falls : 6 * nodes_fields (fields_of (joined (map chunk_rows p.rest.items))) + 2 < t = omega (arith, nodes_joined (rows p.first.items) (joined (map chunk_rows p.rest.items))) in
    (falls, tt)

pub paint_parts-returns : goal.paint_parts-returns
paint_parts-returns t c =
    let p = c.args.parts.now in
    let q = record p { first = c.paint_entries.new.entries; rest = c.paint_chunks.new.rest } in
    record {
      painted = ap fields_of (parts_painted c.args.mode p q c.paint_entries.ensures c.paint_chunks.ensures) ∙ fields_painted c.args.mode (rows_of p);
      whole = whole_painted c.args.mode p q c.paint_entries.ensures c.paint_chunks.ensures refl c.requires;
    }
