-- Values that are equal up to a renaming of cells.
use Rattle.std.proofs.Common.{◌≡◌, ℕ, ℤ, Bool, true, false, cond, List, Option, refl, is_some}
use Rattle.rhai_value.specs.declared.value.access_mode.AccessMode.{AccessMode}
use Rattle.rhai_value.specs.Tree.{Tree, node, Content, Leaf, leaf, int, branch, fields, holder, Kind, array, function, Trees, no_trees, tree_then, Fields, no_fields, field_then, tag_of, mode_of, cell_of, is_host, with_tag, copy, copy_trees, copy_fields, paint, paint_trees, paint_fields}
use Rattle.rhai_value.specs.Parts.{leaf_part, leaf_int, array_of, map_of, function_of, with_content, with_int}
use Rattle.rhai_value.specs.Types.{tree_type}
use Rattle.rhai_value.specs.Relation.{Renaming, paired, Related, RelatedContent, AllRelated, RelatedFields, RelatedFunctions, Alike, Respect}

-- A relation that holds of each leaf with itself, of holders of paired cells, of branches of one
-- kind if it holds of their children, and of maps if it holds of their fields, holds of related
-- values.
module _ (r : Renaming) (P : Tree → Tree → Type 0) (Q : Trees → Trees → Type 0) (S : Fields → Fields → Type 0)
    (leaves : (l : Leaf) (g : ℤ) (m : AccessMode) → P (node (leaf l) g m) (node (leaf l) g m))
    (branches : (k : Kind) (ts us : Trees) (g : ℤ) (m : AccessMode) → AllRelated r ts us → Q ts us → P (node (branch k ts) g m) (node (branch k us) g m))
    (maps : (fs hs : Fields) (g : ℤ) (m : AccessMode) → RelatedFields r fs hs → S fs hs → P (node (fields fs) g m) (node (fields hs) g m))
    (holders : (c d : ℕ) (g : ℤ) (m : AccessMode) → paired r c d ≡ true → P (node (holder c) g m) (node (holder d) g m))
    (none : Q no_trees no_trees)
    (then : (t u : Tree) (ts us : Trees) → P t u → Q ts us → Q (tree_then t ts) (tree_then u us))
    (no_field : S no_fields no_fields)
    (then_field : (k : List ℕ) (t u : Tree) (fs hs : Fields) → P t u → S fs hs → S (field_then k t fs) (field_then k u hs)) where
  mutual
    pub by_related : (t u : Tree) → Related r t u → P t u
    by_related (node c g m) (node d h n) e = rw (← e.1, ← e.2) (by_content c d g m e.0)

    by_content : (c d : Content) (g : ℤ) (m : AccessMode) → RelatedContent r c d → P (node c g m) (node d g m)
    by_content (leaf l) (leaf k) g m e = rw (← e) (leaves l g m)
    by_content (branch k ts) (branch l us) g m e = rw (← e.0) (branches k ts us g m e.1 (by_all ts us e.1))
    by_content (fields fs) (fields hs) g m e = maps fs hs g m e (by_fields fs hs e)
    by_content (holder c) (holder d) g m e = holders c d g m e
    by_content _ _ g m e = absurd e

    pub by_all : (ts us : Trees) → AllRelated r ts us → Q ts us
    by_all no_trees no_trees e = none
    by_all (tree_then t ts) (tree_then u us) e = then t u ts us (by_related t u e.0) (by_all ts us e.1)
    by_all _ _ e = absurd e

    by_fields : (fs hs : Fields) → RelatedFields r fs hs → S fs hs
    by_fields no_fields no_fields e = no_field
    by_fields (field_then k t fs) (field_then j u hs) e = rw (← e.0) (then_field k t u fs hs (by_related t u e.1) (by_fields fs hs e.2))
    by_fields _ _ e = absurd e

-- the same without conditions on the children and the fields
pub by_trees : (r : Renaming) (P : Tree → Tree → Type 0) → ((l : Leaf) (g : ℤ) (m : AccessMode) → P (node (leaf l) g m) (node (leaf l) g m))
    → ((k : Kind) (ts us : Trees) (g : ℤ) (m : AccessMode) → AllRelated r ts us → P (node (branch k ts) g m) (node (branch k us) g m))
    → ((fs hs : Fields) (g : ℤ) (m : AccessMode) → RelatedFields r fs hs → P (node (fields fs) g m) (node (fields hs) g m))
    → ((c d : ℕ) (g : ℤ) (m : AccessMode) → paired r c d ≡ true → P (node (holder c) g m) (node (holder d) g m)) → (t u : Tree) → Related r t u → P t u
by_trees r P leaves branches maps holders =
    by_related r P (λ ts us. Unit {0}) (λ fs hs. Unit {0}) leaves (λ k ts us g m e h. branches k ts us g m e) (λ fs hs g m e h. maps fs hs g m e) holders tt (λ t u ts us p q. tt) tt (λ k t u fs hs p q. tt)

pub same_copy : (r : Renaming) (t u : Tree) → Related r t u → Related r (copy t) (copy u)
same_copy r = by_related r (λ t u. Related r (copy t) (copy u)) (λ ts us. AllRelated r (copy_trees ts) (copy_trees us)) (λ fs hs. RelatedFields r (copy_fields fs) (copy_fields hs))
    (λ l g m. (refl, refl, refl)) (λ k ts us g m e h. ((refl, h), refl, refl)) (λ fs hs g m e h. (h, refl, refl)) (λ c d g m e. (e, refl, refl)) tt (λ t u ts us p q. (p, q)) tt (λ k t u fs hs p q. (refl, p, q))

painted_branch : (r : Renaming) (m : AccessMode) (k : Kind) (ts us : Trees) (g : ℤ) (i : AccessMode) → AllRelated r ts us → AllRelated r (paint_trees m ts) (paint_trees m us) → Related r (paint m (node (branch k ts) g i)) (paint m (node (branch k us) g i))
painted_branch r m array ts us g i e h = ((refl, h), refl, refl)
painted_branch r m (function f) ts us g i e h = ((refl, e), refl, refl)

pub same_paint : (r : Renaming) (m : AccessMode) (t u : Tree) → Related r t u → Related r (paint m t) (paint m u)
same_paint r m = by_related r (λ t u. Related r (paint m t) (paint m u)) (λ ts us. AllRelated r (paint_trees m ts) (paint_trees m us)) (λ fs hs. RelatedFields r (paint_fields m fs) (paint_fields m hs))
    (λ l g i. (refl, refl, refl)) (painted_branch r m) (λ fs hs g i e h. (h, refl, refl)) (λ c d g i e. (e, refl, refl)) tt (λ t u ts us p q. (p, q)) tt (λ k t u fs hs p q. (refl, p, q))

pub same_part : {A : Type 0} (r : Renaming) (part : Leaf → Option A) (t u : Tree) → Related r t u → leaf_part part t ≡ leaf_part part u
same_part r part = by_trees r (λ t u. leaf_part part t ≡ leaf_part part u) (λ l g m. refl) (λ k ts us g m e. refl) (λ fs hs g m e. refl) (λ c d g m e. refl)

pub same_items : (r : Renaming) (t u : Tree) → Related r t u → Alike (AllRelated r) (array_of t) (array_of u)
same_items r = by_trees r (λ t u. Alike (AllRelated r) (array_of t) (array_of u)) (λ l g m. tt) kinds (λ fs hs g m e. tt) (λ c d g m e. tt)
  where
    kinds : (k : Kind) (ts us : Trees) (g : ℤ) (m : AccessMode) → AllRelated r ts us → Alike (AllRelated r) (array_of (node (branch k ts) g m)) (array_of (node (branch k us) g m))
    kinds array ts us g m e = e
    kinds (function f) ts us g m e = tt

pub same_fields : (r : Renaming) (t u : Tree) → Related r t u → Alike (RelatedFields r) (map_of t) (map_of u)
same_fields r = by_trees r (λ t u. Alike (RelatedFields r) (map_of t) (map_of u)) (λ l g m. tt) (λ k ts us g m e. tt) (λ fs hs g m e. e) (λ c d g m e. tt)

pub same_function : (r : Renaming) (t u : Tree) → Related r t u → Alike (RelatedFunctions r) (function_of t) (function_of u)
same_function r = by_trees r (λ t u. Alike (RelatedFunctions r) (function_of t) (function_of u)) (λ l g m. tt) kinds (λ fs hs g m e. tt) (λ c d g m e. tt)
  where
    kinds : (k : Kind) (ts us : Trees) (g : ℤ) (m : AccessMode) → AllRelated r ts us → Alike (RelatedFunctions r) (function_of (node (branch k ts) g m)) (function_of (node (branch k us) g m))
    kinds array ts us g m e = tt
    kinds (function f) ts us g m e = (refl, e)

pub same_with_content : (r : Renaming) (c d : Content) → RelatedContent r c d → Respect r (with_content c) (with_content d)
same_with_content r c d h (node x g m) (node y i n) e = (h, e.1, e.2)

pub same_with_int : (r : Renaming) (n : ℤ) → Respect r (with_int n) (with_int n)
same_with_int r n = by_trees r (λ t u. Related r (with_int n t) (with_int n u)) leaves (λ k ts us g m e. ((refl, e), refl, refl)) (λ fs hs g m e. (e, refl, refl)) (λ c d g m e. (e, refl, refl))
  where
    leaves : (l : Leaf) (g : ℤ) (m : AccessMode) → Related r (with_int n (node (leaf l) g m)) (with_int n (node (leaf l) g m))
    leaves l g m = either (is_some (leaf_int l))
      where
        either : (b : Bool) → Related r (cond b (node (leaf (int n)) g m) (node (leaf l) g m)) (cond b (node (leaf (int n)) g m) (node (leaf l) g m))
        either true = (refl, refl, refl)
        either false = (refl, refl, refl)

pub same_type : (r : Renaming) (t u : Tree) → Related r t u → tree_type t ≡ tree_type u
same_type r = by_trees r (λ t u. tree_type t ≡ tree_type u) (λ l g m. refl) (λ k ts us g m e. refl) (λ fs hs g m e. refl) (λ c d g m e. refl)

pub same_tag : (r : Renaming) (t u : Tree) → Related r t u → tag_of t ≡ tag_of u
same_tag r = by_trees r (λ t u. tag_of t ≡ tag_of u) (λ l g m. refl) (λ k ts us g m e. refl) (λ fs hs g m e. refl) (λ c d g m e. refl)

pub same_mode : (r : Renaming) (t u : Tree) → Related r t u → mode_of t ≡ mode_of u
same_mode r = by_trees r (λ t u. mode_of t ≡ mode_of u) (λ l g m. refl) (λ k ts us g m e. refl) (λ fs hs g m e. refl) (λ c d g m e. refl)

pub same_host : (r : Renaming) (t u : Tree) → Related r t u → is_host t ≡ is_host u
same_host r = by_trees r (λ t u. is_host t ≡ is_host u) (λ l g m. refl) (λ k ts us g m e. refl) (λ fs hs g m e. refl) (λ c d g m e. refl)

pub same_shared : (r : Renaming) (t u : Tree) → Related r t u → is_some (cell_of t) ≡ is_some (cell_of u)
same_shared r = by_trees r (λ t u. is_some (cell_of t) ≡ is_some (cell_of u)) (λ l g m. refl) (λ k ts us g m e. refl) (λ fs hs g m e. refl) (λ c d g m e. refl)

pub same_with_tag : (r : Renaming) (h : ℤ) (t u : Tree) → Related r t u → Related r (with_tag h t) (with_tag h u)
same_with_tag r h = by_trees r (λ t u. Related r (with_tag h t) (with_tag h u)) (λ l g m. (refl, refl, refl)) (λ k ts us g m e. ((refl, e), refl, refl)) (λ fs hs g m e. (e, refl, refl)) (λ c d g m e. (e, refl, refl))
