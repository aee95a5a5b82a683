-- A tree as the list of steps that build it.
use Rattle.std.specs.Prelude.{◌≡◌, ℕ, ℤ, List, [], ◌∷◌, refl}
use Rattle.std.specs.Coded.{Coded, code_by, coded_list}
use Rattle.std.proofs.Common.{ap, ◌∙◌}
use Rattle.rhai_value.specs.declared.value.access_mode.AccessMode.{AccessMode}
use Rattle.rhai_value.specs.Tree.{Tree, node, Content, Leaf, leaf, branch, fields, holder, Kind, Trees, no_trees, tree_then, Fields, no_fields, field_then, fresh, unit}

-- A leaf or a holder needs nothing; a branch needs the children listed last, a map the fields
-- listed last. A list begins empty, and takes the last tree built.
pub data Step : Type 0 where
  a_leaf : Leaf → ℤ → AccessMode → Step
  a_branch : Kind → ℤ → AccessMode → Step
  a_map : ℤ → AccessMode → Step
  a_holder : ℕ → ℤ → AccessMode → Step
  list_begins : Step
  list_takes : Step
  fields_begin : Step
  fields_take : List ℕ → Step

abbrev mutual
  pub steps : Tree → List Step → List Step
  steps (node c g m) rest = content_steps c g m rest

  pub content_steps : Content → ℤ → AccessMode → List Step → List Step
  content_steps (leaf l) g m rest = a_leaf l g m ∷ rest
  content_steps (branch k ts) g m rest = trees_steps ts (a_branch k g m ∷ rest)
  content_steps (fields fs) g m rest = fields_steps fs (a_map g m ∷ rest)
  content_steps (holder c) g m rest = a_holder c g m ∷ rest

  pub trees_steps : Trees → List Step → List Step
  trees_steps no_trees rest = list_begins ∷ rest
  trees_steps (tree_then t ts) rest = trees_steps ts (steps t (list_takes ∷ rest))

  pub fields_steps : Fields → List Step → List Step
  fields_steps no_fields rest = fields_begin ∷ rest
  fields_steps (field_then k t fs) rest = fields_steps fs (steps t (fields_take k ∷ rest))

-- what was built and not used yet
pub record Built : Type 0 where
  pub trees : List Tree
  pub lists : List Trees
  pub maps : List Fields

abbrev pub first_tree : List Tree → Tree
first_tree [] = fresh unit
first_tree (t ∷ ts) = t

abbrev pub first_list : List Trees → Trees
first_list [] = no_trees
first_list (t ∷ ts) = t

abbrev pub first_map : List Fields → Fields
first_map [] = no_fields
first_map (f ∷ fs) = f

abbrev pub rest_of : {A : Type 0} → List A → List A
rest_of [] = []
rest_of (x ∷ xs) = xs

abbrev pub built : Step → Built → Built
built (a_leaf l g m) b = record b { trees = node (leaf l) g m ∷ b.trees }
built (a_branch k g m) b = record b { trees = node (branch k (first_list b.lists)) g m ∷ b.trees; lists = rest_of b.lists }
built (a_map g m) b = record b { trees = node (fields (first_map b.maps)) g m ∷ b.trees; maps = rest_of b.maps }
built (a_holder c g m) b = record b { trees = node (holder c) g m ∷ b.trees }
built list_begins b = record b { lists = no_trees ∷ b.lists }
built list_takes b = record b { trees = rest_of b.trees; lists = tree_then (first_tree b.trees) (first_list b.lists) ∷ rest_of b.lists }
built fields_begin b = record b { maps = no_fields ∷ b.maps }
built (fields_take k) b = record b { trees = rest_of b.trees; maps = field_then k (first_tree b.trees) (first_map b.maps) ∷ rest_of b.maps }

abbrev pub run : List Step → Built → Built
run [] b = b
run (x ∷ xs) b = run xs (built x b)

mutual
  pub runs : (t : Tree) (rest : List Step) (b : Built) → run (steps t rest) b ≡ run rest (record b { trees = t ∷ b.trees })
  runs (node c g m) rest b = runs_content c g m rest b

  runs_content : (c : Content) (g : ℤ) (m : AccessMode) (rest : List Step) (b : Built) → run (content_steps c g m rest) b ≡ run rest (record b { trees = node c g m ∷ b.trees })
  runs_content (leaf l) g m rest b = refl
  runs_content (branch k ts) g m rest b = runs_trees ts (a_branch k g m ∷ rest) b
  runs_content (fields fs) g m rest b = runs_fields fs (a_map g m ∷ rest) b
  runs_content (holder c) g m rest b = refl

  runs_trees : (ts : Trees) (rest : List Step) (b : Built) → run (trees_steps ts rest) b ≡ run rest (record b { lists = ts ∷ b.lists })
  runs_trees no_trees rest b = refl
  runs_trees (tree_then t ts) rest b = runs_trees ts (steps t (list_takes ∷ rest)) b ∙ runs t (list_takes ∷ rest) (record b { lists = ts ∷ b.lists })

  runs_fields : (fs : Fields) (rest : List Step) (b : Built) → run (fields_steps fs rest) b ≡ run rest (record b { maps = fs ∷ b.maps })
  runs_fields no_fields rest b = refl
  runs_fields (field_then k t fs) rest b = runs_fields fs (steps t (fields_take k ∷ rest)) b ∙ runs t (fields_take k ∷ rest) (record b { maps = fs ∷ b.maps })

abbrev pub nothing : Built
nothing = record { trees = []; lists = []; maps = [] }

abbrev pub tree_code : Coded Step → Coded Tree
tree_code step_code =
    code_by (List Step) (coded_list step_code) (λ t. steps t []) (λ xs. first_tree (run xs nothing).trees) (λ t. ap (λ b. first_tree b.trees) (runs t [] nothing))
