use Rattle.std.proofs.Common.{◌≡◌, ◌+◌, ◌*◌, ◌<◌, drop, map, set, get_or, length-set, ap, ap₂, sym, refl, ◌∙◌, arith, rules}
use Rattle.std.proofs.lemmas.List.{get_or_default}
use Rattle.rhai_value.specs.Frames.{unwound, unwound_last, sizes, sizes_last, last_of_all}
use Rattle.rhai_value.specs.Hollow.{with_children, hollow_scanned, hollow_after, hollow_left, IsWaiting}
use Rattle.rhai_value.specs.Rows.{trees_of, fields_of}
use Rattle.rhai_value.specs.Falls.{nodes_joined}
use Rattle.rhai_value.specs.Lists.{row_of, rows, rows_of, chunk_rows, joined}
use Rattle.rhai_value.specs.RowWalks.{chunk_view, chunk_scanned, row_scanned}
use Rattle.rhai_value.specs.Scan.{scan, children_scanned}
use Rattle.rhai_value.specs.Tree.{nodes, nodes_trees, nodes_fields}
use Rattle.rhai_value.specs.declared.map.Chunk.{Chunk}
use Rattle.rhai_value.proofs.KeptKeys.{parts_scanned, whole_scanned}
use Rattle.rhai_value.proofs.RowWalks.{walk_on, walk_rest, walk_end, nodes_behind, nodes_behind_chunks, nodes_chunk}
use Rattle.rhai_value.proofs.Scans.{nodes_drop, scan_opens, items_on, items_rest, items_end}
use Rattle.rhai_value.proofs.Hollows.{opened_scanned, scanned_all, put_scanned, put_left, put_ready}
use Rattle.rhai_value.proofs.walk.scan.+scan.Goals as goal

pub scan_value-returns : goal.scan_value-returns
scan_value-returns g t c =
    let f = g.V.Visitor.visited in
    c.scan_children.ensures ∙ ap (λ x. children_scanned (scan f) x.0 x.1) c.visit.ensures ∙ sym (scan_opens f g.V.Visitor.adds_no_nodes c.args.visitor.now c.args.value.now)

pub scan_items-loop-item-preserved : goal.scan_items-loop-item-preserved
scan_items-loop-item-preserved g t c =
    let i = c.loop-item.invariant in
    let xs = c.loop-item.item-items in
    let old = c.args.items.now.items in
    let n = c.loop-item.item-index in
    let f = scan g.V.Visitor.visited in
    let did = c.scan_value.ensures ∙ ap (f c.loop-item.visitor) (sym c.item-item.is) in
    let rest : drop (n + 1) (set xs n c.scan_value.new.value) ≡ drop (n + 1) old =
    items_rest f c.args.visitor.now c.loop-item.visitor c.scan_value.new.visitor (trees_of old) xs old n c.item-item.result c.scan_value.new.value i.on i.rest (omega arith) i.long c.item-item.is did in
    record {
      on = items_on f c.args.visitor.now c.loop-item.visitor c.scan_value.new.visitor (trees_of old) xs old n c.item-item.result c.scan_value.new.value i.on i.rest (omega arith) i.long c.item-item.is did;
      rest = rest;
      long = length-set xs n c.scan_value.new.value ∙ i.long;
      fewer = omega (arith, ap (λ ys. nodes_trees (trees_of ys)) rest, nodes_drop old (n + 1));
    }

pub scan_items-returns : goal.scan_items-returns
scan_items-returns g t c =
    let i = c.loop-item.invariant in
    items_end (scan g.V.Visitor.visited) c.args.visitor.now c.loop-item.visitor c.loop-item.visitor (trees_of c.args.items.now.items) c.loop-item.item-items c.args.items.now.items c.loop-item.item-index c.args.items.now.len i.on i.long (omega arith) (search rules)

pub scan_parts-scan_entries-requires : goal.scan_parts-scan_entries-requires
scan_parts-scan_entries-requires g t c κs outlives =
    let p = c.args.parts.now in
    let started : 8 * nodes_fields (fields_of (rows_of p)) + 6 ≡ t = c.decreases in
    let falls : 8 * nodes_fields (fields_of (rows p.first.items)) + 4 < t = omega (arith, nodes_joined (rows p.first.items) (joined (map chunk_rows p.rest.items))) in
    (falls, outlives)

pub scan_parts-scan_chunks-requires : goal.scan_parts-scan_chunks-requires
scan_parts-scan_chunks-requires g t c κs outlives =
    let p = c.args.parts.now in
    let started : 8 * nodes_fields (fields_of (rows_of p)) + 6 ≡ t = c.decreases in
    let falls : 8 * nodes_fields (fields_of (joined (map chunk_rows p.rest.items))) + 5 < t = omega (arith, nodes_joined (rows p.first.items) (joined (map chunk_rows p.rest.items))) in
    (falls, outlives)

pub scan_parts-returns-clause-scanned : goal.scan_parts-returns-clause-scanned
scan_parts-returns-clause-scanned g t c =
    let q = record c.args.parts.now { first = c.scan_entries.new.entries; rest = c.scan_chunks.new.rest } in
    parts_scanned (scan g.V.Visitor.visited) c.args.visitor.now c.scan_entries.new.visitor c.scan_chunks.new.visitor c.args.parts.now q c.scan_entries.ensures c.scan_chunks.ensures

pub scan_parts-returns-clause-whole : goal.scan_parts-returns-clause-whole
scan_parts-returns-clause-whole g t c =
    let q = record c.args.parts.now { first = c.scan_entries.new.entries; rest = c.scan_chunks.new.rest } in
    whole_scanned (scan g.V.Visitor.visited) c.args.visitor.now c.scan_entries.new.visitor c.scan_chunks.new.visitor c.args.parts.now q c.scan_entries.ensures c.scan_chunks.ensures refl c.requires

pub scan_entries-loop-entry-preserved : goal.scan_entries-loop-entry-preserved
scan_entries-loop-entry-preserved g t c =
    let i = c.loop-entry.invariant in
    let xs = c.loop-entry.entry-items in
    let old = c.args.entries.now.items in
    let n = c.loop-entry.entry-index in
    let f = scan g.V.Visitor.visited in
    let x = get_or xs n c.entry-item.result in
    let is = get_or_default xs n c.entry-item.result x (omega arith) in
    let u = record x { value = c.scan_value.new.value } in
    let did : (c.scan_value.new.visitor, row_of u) ≡ row_scanned f c.loop-entry.visitor (row_of x) = ap (λ y. (y.0, (x.key, y.1))) c.scan_value.ensures in
    let rest = walk_rest row_of (row_scanned f) c.args.visitor.now c.loop-entry.visitor c.scan_value.new.visitor xs old n x u i.on i.rest (omega arith) i.long is did in
    record {
      on = walk_on row_of (row_scanned f) c.args.visitor.now c.loop-entry.visitor c.scan_value.new.visitor xs old n x u i.on i.rest (omega arith) i.long is did;
      rest = rest;
      long = length-set xs n u ∙ i.long;
      fewer = omega (arith, ap (λ ys. nodes_fields (fields_of (rows ys))) rest, nodes_behind old (n + 1));
    }

pub scan_entries-returns : goal.scan_entries-returns
scan_entries-returns g t c =
    let i = c.loop-entry.invariant in
    walk_end row_of (row_scanned (scan g.V.Visitor.visited)) c.args.visitor.now c.loop-entry.visitor c.loop-entry.entry-items c.args.entries.now.items c.loop-entry.entry-index c.args.entries.now.len i.on i.long (omega arith) (search rules)

pub scan_chunks-scan_entries-requires : goal.scan_chunks-scan_entries-requires
scan_chunks-scan_entries-requires g t c κs outlives =
    let xs = c.loop-chunk.chunk-items in
    let n = c.loop-chunk.chunk-index in
    let x : Chunk = get_or xs n c.chunk-item.result in
    let is : x ≡ get_or xs n x = get_or_default xs n c.chunk-item.result x (omega arith) in
    let started : 8 * nodes_fields (fields_of (joined (map chunk_rows c.args.rest.now.items))) + 5 ≡ t = c.decreases in
    let falls : 8 * nodes_fields (fields_of (chunk_rows x)) + 4 < t = omega (arith, c.loop-chunk.invariant.fewer, nodes_chunk xs n x (omega arith) is) in
    (falls, outlives)

pub scan_chunks-loop-chunk-preserved : goal.scan_chunks-loop-chunk-preserved
scan_chunks-loop-chunk-preserved g t c =
    let i = c.loop-chunk.invariant in
    let xs = c.loop-chunk.chunk-items in
    let old = c.args.rest.now.items in
    let n = c.loop-chunk.chunk-index in
    let f = scan g.V.Visitor.visited in
    let x = get_or xs n c.chunk-item.result in
    let is = get_or_default xs n c.chunk-item.result x (omega arith) in
    let u = record x { entries = c.scan_entries.new.entries } in
    let did : (c.scan_entries.new.visitor, chunk_view u) ≡ chunk_scanned f c.loop-chunk.visitor (chunk_view x) = ap (λ y. (y.0, (x.front, y.1))) c.scan_entries.ensures in
    let rest = walk_rest chunk_view (chunk_scanned f) c.args.visitor.now c.loop-chunk.visitor c.scan_entries.new.visitor xs old n x u i.on i.rest (omega arith) i.long is did in
    record {
      on = walk_on chunk_view (chunk_scanned f) c.args.visitor.now c.loop-chunk.visitor c.scan_entries.new.visitor xs old n x u i.on i.rest (omega arith) i.long is did;
      rest = rest;
      long = length-set xs n u ∙ i.long;
      fewer = omega (arith, ap (λ ys. nodes_fields (fields_of (joined (map chunk_rows ys)))) rest, nodes_behind_chunks old (n + 1));
    }

pub scan_chunks-returns : goal.scan_chunks-returns
scan_chunks-returns g t c =
    let i = c.loop-chunk.invariant in
    walk_end chunk_view (chunk_scanned (scan g.V.Visitor.visited)) c.args.visitor.now c.loop-chunk.visitor c.loop-chunk.chunk-items c.args.rest.now.items c.loop-chunk.chunk-index c.args.rest.now.len i.on i.long (omega arith) (search rules)

pub scan_far-returns-in-Ok : goal.scan_far-returns-in-Ok
scan_far-returns-in-Ok g t c =
    let f = scan g.V.Visitor.visited in
    c.scan_hollow.ensures ∙ opened_scanned f c.args.visitor.now c.take.result c.in-Ok.hollow c.in-Ok.ensures.0 c.in-Ok.ensures.1 ∙ ap (children_scanned f c.args.visitor.now) c.take.ensures.value

pub scan_child-returns-in-Err-clause-comes : goal.scan_child-returns-in-Err-clause-comes
scan_child-returns-in-Err-clause-comes g t c =
    let f = scan g.V.Visitor.visited in
    let back = c.in-Err.ensures.err in
    let did : (c.scan_children.new.visitor, c.scan_children.new.value) ≡ f c.args.visitor.now c.args.child =
    c.scan_children.ensures ∙ ap (children_scanned f c.visit.new.self) back.0 ∙ ap (λ x. children_scanned f x.0 x.1) c.visit.ensures ∙ sym (scan_opens g.V.Visitor.visited g.V.Visitor.adds_no_nodes c.args.visitor.now c.args.child) in
    let put = put_scanned f c.scan_children.new.visitor c.go_down.new.top c.put.new.self c.scan_children.new.value c.put.ensures.children c.put.ensures.next c.put.ensures.shell in
    ap₂ (unwound (hollow_after f)) back.1 put
    ∙ ap (λ h. unwound (hollow_after f) c.args.frames.now.items (hollow_after f c.scan_children.new.visitor h c.scan_children.new.value)) back.2
    ∙ ap (λ x. unwound (hollow_after f) c.args.frames.now.items (hollow_after f x.0 c.args.top.now x.1)) did

pub scan_child-returns-in_default-clause-comes : goal.scan_child-returns-in_default-clause-comes
scan_child-returns-in_default-clause-comes g t c =
    let f = scan g.V.Visitor.visited in
    let down = c.in_default.ensures.ok in
    let top = c.go_down.new.top in
    let fs = c.args.frames.now.items in
    let did : hollow_scanned f c.visit.new.self top ≡ f c.args.visitor.now c.args.child =
    opened_scanned f c.visit.new.self c.visit.new.value top down.1 down.2 ∙ ap (λ x. children_scanned f x.0 x.1) c.visit.ensures ∙ sym (scan_opens g.V.Visitor.visited g.V.Visitor.adds_no_nodes c.args.visitor.now c.args.child) in
    ap₂ (unwound (hollow_after f)) down.0 did ∙ unwound_last (hollow_after f) fs c.args.top.now (f c.args.visitor.now c.args.child)

pub scan_child-returns-in_default-clause-fewer : goal.scan_child-returns-in_default-clause-fewer
scan_child-returns-in_default-clause-fewer g t c =
    let down = c.in_default.ensures.ok in
    let fs = c.args.frames.now.items in
    let all : sizes hollow_left c.go_down.new.frames.items ≡ sizes hollow_left fs + (2 * hollow_left c.args.top.now + 1) = ap (sizes hollow_left) down.0 ∙ sizes_last hollow_left fs c.args.top.now in
    omega (arith, all, down.3, ap (λ x. nodes x.1) c.visit.ensures, g.V.Visitor.adds_no_nodes c.args.visitor.now c.args.child)

pub scan_hollow-loop-child-smaller : goal.scan_hollow-loop-child-smaller
scan_hollow-loop-child-smaller g t c =
    let left = c.pop.new.self.items in
    let up = c.in-Some-pop.up in
    let waits = last_of_all IsWaiting left up (rw c.in-Some-pop.ensures.items at c.loop-child.invariant.waiting) in
    let all : sizes hollow_left c.loop-child.frames.items ≡ sizes hollow_left left + (2 * hollow_left up + 1) = ap (sizes hollow_left) c.in-Some-pop.ensures.items ∙ sizes_last hollow_left left up in
    omega (arith, all, put_left up c.put.new.self c.close-done.result c.put.ensures.children c.put.ensures.next waits.1)

pub scan_hollow-loop-child-preserved : goal.scan_hollow-loop-child-preserved
scan_hollow-loop-child-preserved g t c =
    let f = scan g.V.Visitor.visited in
    let i = c.loop-child.invariant in
    let v = c.loop-child.visitor in
    let top = c.loop-child.top in
    let left = c.pop.new.self.items in
    let up = c.in-Some-pop.up in
    let done = c.close-done.result in
    let waits = last_of_all IsWaiting left up (rw c.in-Some-pop.ensures.items at i.waiting) in
    let all : sizes hollow_left c.loop-child.frames.items ≡ sizes hollow_left left + (2 * hollow_left up + 1) = ap (sizes hollow_left) c.in-Some-pop.ensures.items ∙ sizes_last hollow_left left up in
    let ended : hollow_scanned f v top ≡ (v, done) =
    scanned_all f v top.shell top.children.items top.next c.in-None.ensures.1 ∙ ap (λ h. (v, with_children h.shell h.children.items)) (sym c.in-None.ensures.0) ∙ ap (λ x. (v, x)) (sym c.close-done.ensures) in
    record {
      comes = ap (unwound (hollow_after f) left) (put_scanned f v up c.put.new.self done c.put.ensures.children c.put.ensures.next c.put.ensures.shell)
          ∙ sym (unwound_last (hollow_after f) left up (v, done)) ∙ ap₂ (unwound (hollow_after f)) (sym c.in-Some-pop.ensures.items) (sym ended) ∙ i.comes;
      waiting = waits.0;
      ready = put_ready up c.put.new.self done c.put.ensures.children c.put.ensures.next waits.1;
      below = omega (arith, all, put_left up c.put.new.self done c.put.ensures.children c.put.ensures.next waits.1, i.below);
    }
