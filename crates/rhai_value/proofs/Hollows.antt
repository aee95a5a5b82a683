-- Values whose children are taken out and scanned one after another.
use Rattle.std.proofs.Common.{◌≡◌, ℕ, zero, suc, ◌+◌, ◌-◌, ◌<◌, List, [], ◌∷◌, ◌++◌, length, length-set, set, get_or, take, drop, append_assoc, add-one, refl, sym, ap, ap₂, ◌∙◌, arith}
use Rattle.std.proofs.Math.ListN.{drop_of_length-le}
use Rattle.std.proofs.Math.Seq.{drop-cons}
use Rattle.std.proofs.lemmas.Grind.{take-set_at}
use Rattle.std.proofs.lemmas.List.{append-nil, take_all, set-set, drop-set-lt}
use Rattle.rhai_value.specs.Children.{listed, listed_fields, children_in, children_of}
use Rattle.rhai_value.specs.Hollow.{with_fields, with_children_in, with_children, list_scanned, whole_with, scanned_from, hollow_scanned, hollow_after, hollow_left, exchanged, AreTakenOut, IsReady, IsWaiting}
use Rattle.rhai_value.specs.Rows.{Rows, trees_of, fields_of}
use Rattle.rhai_value.specs.Scan.{Visiting, tree_before, field_before, each_scanned, fields_scanned, content_scanned, children_scanned}
use Rattle.rhai_value.specs.Tree.{Tree, node, Content, leaf, branch, fields, holder, Trees, no_trees, tree_then, Fields, no_fields, field_then, nodes, nodes_trees}
use Rattle.rhai_value.specs.declared.walk.hollow.Hollow.{Hollow}
use Rattle.rhai_value.proofs.Childrens.{nodes_children}
use Rattle.rhai_value.proofs.Scans.{behind}

-- ---- the children of a value, as a list

module _ {S : Type 0} (f : Visiting S) where
  each_listed : (v : S) (ts : Trees) → each_scanned f v ts ≡ ((list_scanned f v (listed ts)).0, trees_of (list_scanned f v (listed ts)).1)
  each_listed v no_trees = refl
  each_listed v (tree_then t ts) = ap (tree_before (f v t)) (each_listed (f v t).0 ts)

  fields_listed : (v : S) (fs : Fields) → fields_scanned f v fs ≡ ((list_scanned f v (listed_fields fs)).0, with_fields fs (list_scanned f v (listed_fields fs)).1)
  fields_listed v no_fields = refl
  fields_listed v (field_then k t fs) = ap (field_before k (f v t)) (fields_listed (f v t).0 fs)

  content_listed : (v : S) (c : Content) → content_scanned f v c ≡ ((list_scanned f v (children_in c)).0, with_children_in c (list_scanned f v (children_in c)).1)
  content_listed v (leaf l) = refl
  content_listed v (branch k ts) = ap (λ x. (x.0, branch k x.1)) (each_listed v ts)
  content_listed v (fields fs) = ap (λ x. (x.0, fields x.1)) (fields_listed v fs)
  content_listed v (holder c) = refl

  pub children_listed : (v : S) (t : Tree) → children_scanned f v t ≡ whole_with t [] (list_scanned f v (children_of t))
  children_listed v (node c g m) = ap (λ x. (x.0, node x.1 g m)) (content_listed v c)

  pub list_length : (v : S) (ts : List Tree) → length (list_scanned f v ts).1 ≡ length ts
  list_length v [] = refl
  list_length v (t ∷ ts) = ap suc (list_length (f v t).0 ts)

  -- a value is opened
  pub opened_scanned : (v : S) (t : Tree) (h : Hollow) → h.next ≡ 0 → AreTakenOut t h.shell h.children.items → hollow_scanned f v h ≡ children_scanned f v t
  opened_scanned v t h none hollow =
      let r = list_scanned f v (children_of t) in
      ap₂ (λ n ts. scanned_from f v h.shell ts n) none hollow.0 ∙ ap (λ u. (r.0, u)) (hollow.1 r.1 (list_length v (children_of t))) ∙ sym (children_listed v t)

  -- one child after another
  pub scanned_next : (v : S) (t u : Tree) (ts : List Tree) (n : ℕ) (d : Tree) → n < length ts
      → scanned_from f v t ts n ≡ (let x = f v (get_or ts n d) in scanned_from f x.0 t (set (set ts n u) n x.1) (n + 1))
  scanned_next v t u ts n d lt =
      let x = f v (get_or ts n d) in
      let first : drop n ts ≡ get_or ts n d ∷ drop (n + 1) ts = drop-cons ts n d lt ∙ ap (λ k. get_or ts n d ∷ drop k ts) (sym (add-one n)) in
      let twice : set (set ts n u) n x.1 ≡ set ts n x.1 = set-set ts n u x.1 in
      let before : take (n + 1) (set ts n x.1) ≡ take n ts ++ x.1 ∷ [] = take-set_at ts n (n + 1) x.1 refl lt in
      let later : drop (n + 1) (set ts n x.1) ≡ drop (n + 1) ts = behind ts n x.1 lt in
      let r = list_scanned f x.0 (drop (n + 1) ts) in
      ap (λ us. whole_with t (take n ts) (list_scanned f v us)) first
      ∙ ap (λ us. (r.0, with_children t us)) (sym (append_assoc (take n ts) (x.1 ∷ []) r.1))
      ∙ ap₂ (λ us ws. whole_with t us (list_scanned f x.0 ws)) (sym before) (sym later)
      ∙ ap (λ us. scanned_from f x.0 t us (n + 1)) (sym twice)

  pub scanned_all : (v : S) (t : Tree) (ts : List Tree) (n : ℕ) → n ≡ length ts → scanned_from f v t ts n ≡ (v, with_children t ts)
  scanned_all v t ts n end =
      let none : drop n ts ≡ [] = drop_of_length-le ts (omega (arith, end)) in
      ap (λ us. whole_with t (take n ts) (list_scanned f v us)) none ∙ ap (λ us. (v, with_children t us)) (append-nil (take n ts) ∙ take_all n ts (omega (arith, end)))

  -- the result for a child is put back
  pub put_scanned : (v : S) (h k : Hollow) (x : Tree) → k.children.items ≡ set h.children.items (h.next - 1) x → k.next ≡ h.next → k.shell ≡ h.shell → hollow_scanned f v k ≡ hollow_after f v h x
  put_scanned v h k x items next shell = ap (λ t. scanned_from f v t k.children.items k.next) shell ∙ ap₂ (scanned_from f v h.shell) items next

pub put_left : (h k : Hollow) (x : Tree) → k.children.items ≡ set h.children.items (h.next - 1) x → k.next ≡ h.next → IsWaiting h → hollow_left k ≡ hollow_left h
put_left h k x items next waiting =
    ap₂ (λ ts n. nodes_trees (trees_of (drop n ts))) items next ∙ ap (λ ts. nodes_trees (trees_of ts)) (drop-set-lt h.next h.children.items (h.next - 1) x (omega (arith, waiting.0)))

pub put_ready : (h k : Hollow) (x : Tree) → k.children.items ≡ set h.children.items (h.next - 1) x → k.next ≡ h.next → IsWaiting h → IsReady k
put_ready h k x items next waiting = omega (arith, next, waiting.1, ap length items, length-set h.children.items (h.next - 1) x)

-- the remaining nodes of an opened value
pub taken_left : (t : Tree) (ts : List Tree) → ts ≡ children_of t → nodes_trees (trees_of ts) < nodes t
taken_left t ts is = rw is (nodes_children t)

-- the remaining nodes after taking a child
pub left_next : (ts : List Tree) (n : ℕ) (u d : Tree) → n < length ts → nodes_trees (trees_of (drop n ts)) ≡ nodes (get_or ts n d) + nodes_trees (trees_of (drop (n + 1) (set ts n u)))
left_next ts n u d lt =
    ap (λ us. nodes_trees (trees_of us)) (drop-cons ts n d lt ∙ ap (λ k. get_or ts n d ∷ drop k ts) (sym (add-one n))) ∙ ap (λ us. nodes (get_or ts n d) + nodes_trees (trees_of us)) (sym (behind ts n u lt))

-- ---- a value's own children, put back

trees_kept : (ts : Trees) → trees_of (listed ts) ≡ ts
trees_kept no_trees = refl
trees_kept (tree_then t ts) = ap (tree_then t) (trees_kept ts)

fields_kept : (fs : Fields) → with_fields fs (listed_fields fs) ≡ fs
fields_kept no_fields = refl
fields_kept (field_then k t fs) = ap (field_then k t) (fields_kept fs)

pub children_kept : (t : Tree) → with_children t (children_of t) ≡ t
children_kept (node (leaf l) g m) = refl
children_kept (node (branch k ts) g m) = ap (λ us. node (branch k us) g m) (trees_kept ts)
children_kept (node (fields fs) g m) = ap (λ us. node (fields us) g m) (fields_kept fs)
children_kept (node (holder c) g m) = refl

-- ---- the values of a map, swapped

pub listed_length : (rs : Rows) → length (listed_fields (fields_of rs)) ≡ length rs
listed_length [] = refl
listed_length (r ∷ rs) = ap suc (listed_length rs)

-- the last of two swaps counts
pub fields_twice : (fs : Fields) (us ws : List Tree) → length ws ≡ length (listed_fields fs) → with_fields (with_fields fs us) ws ≡ with_fields fs ws
fields_twice no_fields us ws long = refl
fields_twice (field_then k t fs) us [] long = cc
fields_twice (field_then k t fs) [] (w ∷ ws) long = ap (field_then k w) (fields_twice fs [] ws (omega (arith, long)))
fields_twice (field_then k t fs) (u ∷ us) (w ∷ ws) long = ap (field_then k w) (fields_twice fs us ws (omega (arith, long)))

pub exchange_given : (taken us : List Tree) (fs : Fields) → (fields_scanned exchanged (taken, us) fs).1 ≡ with_fields fs us
exchange_given taken us no_fields = refl
exchange_given taken [] (field_then k t fs) = ap (field_then k t) (exchange_given taken [] fs)
exchange_given taken (u ∷ us) (field_then k t fs) = ap (field_then k u) (exchange_given (taken ++ t ∷ []) us fs)

pub exchange_taken : (taken us : List Tree) (fs : Fields) → length us ≡ length (listed_fields fs) → (fields_scanned exchanged (taken, us) fs).0 ≡ (taken ++ listed_fields fs, [])
exchange_taken taken [] no_fields long = ap (λ ts. (ts, [])) (sym (append-nil taken))
exchange_taken taken (u ∷ us) no_fields long = cc
exchange_taken taken [] (field_then k t fs) long = cc
exchange_taken taken (u ∷ us) (field_then k t fs) long =
    exchange_taken (taken ++ t ∷ []) us fs (omega (arith, long)) ∙ ap (λ ts. (ts, [])) (append_assoc taken (t ∷ []) (listed_fields fs))

-- a list with these parts
pub parts_settled : (ts us : List Tree) (n : ℕ) → take n ts ≡ us → drop n ts ≡ [] → ts ≡ us
parts_settled [] us zero is none = is
parts_settled (t ∷ ts) us zero is none = cc
parts_settled [] us (suc n) is none = is
parts_settled (t ∷ ts) us (suc n) is none = ap (λ xs. t ∷ xs) (parts_settled ts (take n ts) n refl none) ∙ is
