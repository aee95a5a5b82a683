use Rattle.std.proofs.Common.{◌≡◌, ℕ, ◌+◌, ◌-◌, ◌<◌, ◌/◌, suc, List, length, take, drop, get_or, Ordering, ap, sym, subst, ◌∙◌, arith}
use Rattle.std.proofs.lemmas.Cmp.{nat_list_cmp_total}
use Rattle.std.proofs.lemmas.List.{get_or_default, get_or-map, length-map}
use Rattle.rhai_value.specs.Lists.{Row, row_of, rows, AreBelow}
use Rattle.rhai_value.specs.Rows.{bytes_cmp}
use Rattle.rhai_value.specs.declared.map.Entry.{Entry}
use Rattle.rhai_value.proofs.KeyOrder.{below_to, below_hit, above_from}
use Rattle.rhai_value.proofs.map.sought.place_in.Goals as goal

-- the comparison with an entry is that with its row
row_told : (k : List ℕ) (es : List Entry) (m : ℕ) (x : Entry) (r s : Ordering) → m < length es → x ≡ get_or es m x → r ≡ bytes_cmp k x.key → r ≡ s → bytes_cmp k (get_or (rows es) m (row_of x)).0 ≡ s
row_told k es m x r s lt is told same = ap (λ e. bytes_cmp k e.0) (get_or-map row_of es m x (row_of x) lt) ∙ ap (λ (e : Entry). bytes_cmp k e.key) (sym is) ∙ sym told ∙ same

pub loop-low-preserved-in-Less : goal.loop-low-preserved-in-Less
loop-low-preserved-in-Less c =
    let m = c.loop-low.low + (c.loop-low.high - c.loop-low.low) / 2 in
    let es = c.args.entries.now in
    let x = c.index-entries-middle.result in
    let within : m < length es = omega (arith, c.loop-low.invariant.within, c.loop-low-test.true) in
    let inside : m < length (rows es) = omega (arith, within, length-map es row_of) in
    let told = row_told c.args.sought.now es m x _ _ within c.index-entries-middle.is c.order_to_entry.ensures c.in-Less.is in
    record {
      ordered = omega (arith, c.loop-low-test.true);
      within = omega (arith, within);
      below = c.loop-low.invariant.below;
      above = above_from nat_list_cmp_total c.args.sought.now (rows es) m (row_of x) c.requires inside told;
    }

pub returns-in-Equal-clause-found : goal.returns-in-Equal-clause-found
returns-in-Equal-clause-found c =
    let m = c.loop-low.low + (c.loop-low.high - c.loop-low.low) / 2 in
    let es = c.args.entries.now in
    let x = c.index-entries-middle.result in
    let within : m < length es = omega (arith, c.loop-low.invariant.within, c.loop-low-test.true) in
    let inside : m < length (rows es) = omega (arith, within, length-map es row_of) in
    let told = row_told c.args.sought.now es m x _ _ within c.index-entries-middle.is c.order_to_entry.ensures c.in-Equal.is in (
      inside,
      below_hit nat_list_cmp_total c.args.sought.now (rows es) m (row_of x) c.requires inside told,
      λ d. ap (λ (e : Row). bytes_cmp c.args.sought.now e.0) (get_or_default (rows es) m d (row_of x) inside) ∙ told,
    )

pub loop-low-preserved : goal.loop-low-preserved
loop-low-preserved c =
    let m = c.loop-low.low + (c.loop-low.high - c.loop-low.low) / 2 in
    let es = c.args.entries.now in
    let x = c.index-entries-middle.result in
    let within : m < length es = omega (arith, c.loop-low.invariant.within, c.loop-low-test.true) in
    let inside : m < length (rows es) = omega (arith, within, length-map es row_of) in
    let told = row_told c.args.sought.now es m x _ _ within c.index-entries-middle.is c.order_to_entry.ensures c.in-Greater.is in
    record {
      ordered = omega (arith, c.loop-low-test.true);
      within = c.loop-low.invariant.within;
      below = subst (λ n. AreBelow bytes_cmp c.args.sought.now (take n (rows es))) {x = suc m} (omega arith)
          (below_to nat_list_cmp_total c.args.sought.now (rows es) m (row_of x) c.requires inside told);
      above = c.loop-low.invariant.above;
    }

pub returns-clause-absent : goal.returns-clause-absent
returns-clause-absent c =
    let i = c.loop-low.invariant in
    let es = c.args.entries.now in
    let end : c.loop-low.high ≡ c.loop-low.low = omega (arith, i.ordered, c.loop-low-test.false) in
    (omega (arith, i.within, end, length-map es row_of), i.below, subst (λ n. Rattle.rhai_value.specs.Lists.AreAbove bytes_cmp c.args.sought.now (drop n (rows es))) end i.above)
