use Rattle.std.proofs.Common.{◌≡◌, ◌+◌, ◌*◌, ◌<◌, map, refl, arith, sym, ap, ◌∙◌}
use Rattle.rhai_value.specs.Falls.{nodes_joined}
use Rattle.rhai_value.specs.Lists.{chunk_rows, joined, rows, rows_of}
use Rattle.rhai_value.specs.RowWalks.{chunk_view, copied_chunk}
use Rattle.rhai_value.specs.Rows.{fields_of}
use Rattle.rhai_value.specs.Tree.{nodes_fields}
use Rattle.rhai_value.proofs.KeptKeys.{parts_copied, whole_copied, whole_opened}
use Rattle.rhai_value.specs.declared.map.Chunk.{Chunk}
use Rattle.rhai_value.specs.declared.map.MapParts.{MapParts}
use Rattle.rhai_value.proofs.RowWalks.{more_mapped, nodes_behind_chunks, nodes_chunk}
use Rattle.rhai_value.proofs.walk.copy.+copy.Goals as goal

pub copied_map-copied_parts-requires : goal.copied_map-copied_parts-requires
copied_map-copied_parts-requires g t c κs outlives =
    let p = c.deref-parts.result.now in
    let started : 8 * nodes_fields (fields_of c.args.map.now) + 5 ≡ t = c.decreases in
    let opened = whole_opened _ _ p (sym c.in-Some.is) c.deref-parts.ensures c.map.invariant in
    let falls : 8 * nodes_fields (fields_of (rows_of p)) + 4 < t = omega (arith, ap (λ r. nodes_fields (fields_of r)) (opened.0 ∙ c.map.view_is)) in
    (falls, (outlives, opened.1))

pub copied_parts-copied_entries-requires : goal.copied_parts-copied_entries-requires
copied_parts-copied_entries-requires g t c κs outlives =
    let p = c.args.parts.now in
    let started : 8 * nodes_fields (fields_of (rows_of p)) + 4 ≡ t = c.decreases in
    let falls : 8 * nodes_fields (fields_of (rows p.first.items)) + 2 < t = omega (arith, nodes_joined (rows p.first.items) (joined (map chunk_rows p.rest.items))) in
    (falls, outlives)

pub copied_parts-copied_chunks-requires : goal.copied_parts-copied_chunks-requires
copied_parts-copied_chunks-requires g t c κs outlives =
    let p = c.args.parts.now in
    let started : 8 * nodes_fields (fields_of (rows_of p)) + 4 ≡ t = c.decreases in
    let falls : 8 * nodes_fields (fields_of (joined (map chunk_rows p.rest.items))) + 3 < t = omega (arith, nodes_joined (rows p.first.items) (joined (map chunk_rows p.rest.items))) in
    (falls, outlives)

pub copied_parts-returns-clause-rows : goal.copied_parts-returns-clause-rows
copied_parts-returns-clause-rows g t c =
    let q : MapParts = record { first = c.in_ok-first.first; rest = c.in_ok-rest.rest; len = c.args.parts.now.len } in
    parts_copied g.M.Modes.after c.args.parts.now q c.in_ok-first.ensures c.in_ok-rest.ensures

pub copied_parts-returns-clause-whole : goal.copied_parts-returns-clause-whole
copied_parts-returns-clause-whole g t c =
    let q : MapParts = record { first = c.in_ok-first.first; rest = c.in_ok-rest.rest; len = c.args.parts.now.len } in
    whole_copied g.M.Modes.after c.args.parts.now q c.in_ok-first.ensures c.in_ok-rest.ensures refl c.requires

pub copied_chunks-copied_entries-requires : goal.copied_chunks-copied_entries-requires
copied_chunks-copied_entries-requires g t c κs outlives =
    let xs = c.deref-chunk-items.result.now in
    let n = c.loop-chunk.chunk-index in
    let x : Chunk = c.chunk-item.result in
    let started : 8 * nodes_fields (fields_of (joined (map chunk_rows c.args.rest.now.items))) + 3 ≡ t = c.decreases in
    let falls : 8 * nodes_fields (fields_of (chunk_rows x)) + 2 < t = omega (arith, c.loop-chunk.invariant.fewer, nodes_chunk xs n x (omega arith) c.chunk-item.is) in
    (falls, outlives)

pub copied_chunks-loop-chunk-preserved : goal.copied_chunks-loop-chunk-preserved
copied_chunks-loop-chunk-preserved g t c =
    let i = c.loop-chunk.invariant in
    let xs = c.deref-chunk-items.result.now in
    let n = c.loop-chunk.chunk-index in
    let x : Chunk = c.chunk-item.result in
    let u : Chunk = record { front = x.front; entries = c.in_ok-entries.entries } in
    let did : chunk_view u ≡ copied_chunk g.M.Modes.after (chunk_view x) = ap (λ rs. (x.front, rs)) c.in_ok-entries.ensures in
    let all = ap (λ cs. nodes_fields (fields_of (joined (map chunk_rows cs)))) c.deref-chunk-items.ensures.value in
    record {
      fewer = omega (arith, nodes_behind_chunks xs (n + 1), all);
      room = omega (arith, i.room, c.push_reserved.ensures.capacity);
      copied = ap (map chunk_view) c.push_reserved.ensures.items ∙ more_mapped chunk_view chunk_view (copied_chunk g.M.Modes.after) c.loop-chunk.copies.items xs n x u i.copied (omega arith) c.chunk-item.is did;
    }
