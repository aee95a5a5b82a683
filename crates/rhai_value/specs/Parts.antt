-- Parts of values: contents by type.
use Rattle.std.specs.Prelude.{ℕ, ℤ, Bool, Option, Some, None, List, is_some, option_and_then, if◌then◌else◌}
use Rattle.rhai_value.specs.declared.value.host.Host.{Host}
use Rattle.rhai_value.specs.declared.value.type_id.TypeId.{TypeId}
use Rattle.rhai_value.specs.Types.{host_at}
use Rattle.rhai_value.specs.Tree.{Tree, node, Content, Leaf, leaf, branch, unit, bool, int, char, text, blob, host, array, fields, function, Trees, Fields}

-- the part of a leaf: its unit, boolean, int, character, text, bytes or host value
abbrev pub leaf_unit : Leaf → Option (Unit {0})
leaf_unit unit = Some tt
leaf_unit _ = None

abbrev pub leaf_bool : Leaf → Option Bool
leaf_bool (bool b) = Some b
leaf_bool _ = None

abbrev pub leaf_int : Leaf → Option ℤ
leaf_int (int n) = Some n
leaf_int _ = None

abbrev pub leaf_char : Leaf → Option ℕ
leaf_char (char c) = Some c
leaf_char _ = None

abbrev pub leaf_text : Leaf → Option (List ℕ)
leaf_text (text s) = Some s
leaf_text _ = None

abbrev pub leaf_blob : Leaf → Option (List ℕ)
leaf_blob (blob bs) = Some bs
leaf_blob _ = None

abbrev pub leaf_host : Leaf → Option Host
leaf_host (host h) = Some h
leaf_host _ = None

-- the same for a value that is a leaf
abbrev pub leaf_part : {A : Type 0} → (Leaf → Option A) → Tree → Option A
leaf_part part (node (leaf l) g m) = part l
leaf_part part _ = None

abbrev pub unit_of : Tree → Option (Unit {0})
unit_of t = leaf_part leaf_unit t

abbrev pub bool_of : Tree → Option Bool
bool_of t = leaf_part leaf_bool t

abbrev pub int_of : Tree → Option ℤ
int_of t = leaf_part leaf_int t

abbrev pub char_of : Tree → Option ℕ
char_of t = leaf_part leaf_char t

abbrev pub text_of : Tree → Option (List ℕ)
text_of t = leaf_part leaf_text t

abbrev pub blob_of : Tree → Option (List ℕ)
blob_of t = leaf_part leaf_blob t

abbrev pub host_of : Tree → Option Host
host_of t = leaf_part leaf_host t

-- the same for one of the host's types
abbrev pub typed_host_of : TypeId → Tree → Option Host
typed_host_of k t = option_and_then (host_at k) (host_of t)

-- the items of an array
abbrev pub array_of : Tree → Option Trees
array_of (node (branch array ts) g m) = Some ts
array_of _ = None

-- the fields of a map
abbrev pub map_of : Tree → Option Fields
map_of (node (fields fs) g m) = Some fs
map_of _ = None

-- the name and the curried values of a function pointer
abbrev pub function_of : Tree → Option (List ℕ × Trees)
function_of (node (branch (function f) ts) g m) = Some (f, ts)
function_of _ = None

-- the value with another content; tag and mode are kept
abbrev pub with_content : Content → Tree → Tree
with_content c (node d g m) = node c g m

-- the same for a value with such a part; any other value is unchanged
abbrev pub with_part : {A : Type 0} → (Tree → Option A) → Content → Tree → Tree
with_part part c t = if is_some (part t) then with_content c t else t

-- the value with another int, if it is one
abbrev pub with_int : ℤ → Tree → Tree
with_int n t = with_part int_of (leaf (int n)) t
