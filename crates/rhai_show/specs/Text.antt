-- The printed form of a value.
use Rattle.std.specs.Prelude.{ℕ, List, [], ◌∷◌, ◌++◌, codes}
use Rattle.std.specs.List.{flat_map, join_by}
use Rattle.rhai_text.specs.Quote.{quoted_text}
use Rattle.rhai_value.specs.declared.cells.store.Cell.{Cell}
use Rattle.rhai_value.specs.Tree.{Tree, node, Content, leaf, branch, fields, holder, Kind, array, function, Trees, no_trees, tree_then, Fields, no_fields, field_then}
use Rattle.rhai_value.specs.Walk.{Visit, entered, barred, revisited, walk}
use Rattle.rhai_show.specs.Leaves.{in_debug, leaf_printed}
use Rattle.rhai_show.specs.declared.form.Form.{Form}
use Rattle.rhai_show.specs.declared.form.Form.TheVariants.{Display, Inner, Debug}

-- the form of a cell's content
abbrev pub content_form : Form → Form
content_form Display = Inner
content_form Inner = Inner
content_form Debug = Debug

-- the form of the values inside an array or a map
abbrev pub item_form : Form → Form
item_form Display = Debug
item_form Inner = Inner
item_form Debug = Debug

-- a comma and a space
abbrev pub comma : List ℕ
comma = codes ", "

-- the texts of these, separated by commas
abbrev pub joined : {A : Type 0} → (A → List ℕ) → List A → List ℕ
joined f xs = join_by f comma xs

-- the texts of these, each preceded by a comma
abbrev pub further : {A : Type 0} → (A → List ℕ) → List A → List ℕ
further f xs = flat_map (λ x. comma ++ f x) xs

-- a key or the name of a function
abbrev pub name_printed : Form → List ℕ → List ℕ
name_printed form n = in_debug form (quoted_text n) n

-- a key with the text of its value
abbrev pub field_printed : Form → List ℕ → List ℕ → List ℕ
field_printed form k v = name_printed form k ++ codes ": " ++ v

-- an array and a function pointer, by the texts of their children
abbrev pub branch_printed : Form → Kind → List (Form → List ℕ) → List ℕ
branch_printed form array vs = codes "[" ++ joined (λ v. v (item_form form)) vs ++ codes "]"
branch_printed form (function f) vs = codes "Fn(" ++ name_printed form f ++ in_debug form (further (λ v. v Debug) vs) [] ++ codes ")"

-- a map, by the texts of its fields
abbrev pub map_printed : Form → List (Form → List ℕ) → List ℕ
map_printed form vs = codes "#{" ++ joined (λ v. v (item_form form)) vs ++ codes "}"

-- a holder is its cell's content followed by ` (shared)`; only `<shared>` if the cell is open, marked or foreign
abbrev pub holder_printed : Form → Visit (Form → List ℕ) → List ℕ
holder_printed form (entered t) = t (content_form form) ++ codes " (shared)"
holder_printed form barred = codes "<shared>"
holder_printed form revisited = codes "<shared>"

-- a value in each form
abbrev mutual
  pub printed_of : List ℕ → (ℕ → Visit (Form → List ℕ)) → Tree → Form → List ℕ
  printed_of path go (node c g m) form = content_printed path go c form

  pub content_printed : List ℕ → (ℕ → Visit (Form → List ℕ)) → Content → Form → List ℕ
  content_printed path go (leaf l) form = leaf_printed form l
  content_printed path go (branch k ts) form = branch_printed form k (all_printed path go ts)
  content_printed path go (fields fs) form = map_printed form (fields_printed path go fs)
  content_printed path go (holder c) form = holder_printed form (go c)

  pub all_printed : List ℕ → (ℕ → Visit (Form → List ℕ)) → Trees → List (Form → List ℕ)
  all_printed path go no_trees = []
  all_printed path go (tree_then t ts) = printed_of path go t ∷ all_printed path go ts

  pub fields_printed : List ℕ → (ℕ → Visit (Form → List ℕ)) → Fields → List (Form → List ℕ)
  fields_printed path go no_fields = []
  fields_printed path go (field_then k t fs) = (λ form. field_printed form k (printed_of path go t form)) ∷ fields_printed path go fs

-- the characters of a value in a form, with these cells open
unfoldable pub printed : List Cell → List ℕ → Tree → Form → List ℕ
printed s path t = walk printed_of s path t
