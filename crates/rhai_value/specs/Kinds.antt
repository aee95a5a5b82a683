-- Parts and types: each part is the content of the values of its type.
use Rattle.std.specs.Prelude.{◌≡◌, Bool, true, false, Some, None, option_map, refl, if◌then◌else◌}
use Rattle.std.proofs.Common.{ap, sym, ◌∙◌}
use denote.Enum.Bare.{same_true}
use Rattle.rhai_value.specs.contracts.value.type_id.TypeId as type_id
use Rattle.rhai_value.specs.declared.value.host.Host.{Host}
use Rattle.rhai_value.specs.declared.value.host.Host.TheVariants as host_kind
use Rattle.rhai_value.specs.declared.value.type_id.TypeId.{TypeId}
use Rattle.rhai_value.specs.declared.value.type_id.TypeId.TheVariants as id
use Rattle.rhai_value.specs.Tree.{Tree, node, fresh, Content, leaf, branch, holder, unit, bool, int, char, text, blob, host, array, fields, function}
use Rattle.rhai_value.specs.Types.{host_type, is_type, is_host_type, is_content_type, typed_content}
use Rattle.rhai_value.specs.Parts.{unit_of, bool_of, int_of, char_of, text_of, blob_of, array_of, map_of, function_of, typed_host_of}

-- types that compare as equal are equal
pub one_type : (a b : TypeId) → is_type a b ≡ true → a ≡ b
one_type a b e = same_true type_id.the_type tt a b e

pub host_constructs : (k : TypeId) → is_host_type k ≡ true → is_content_type k ≡ true
host_constructs id.String e = absurd (cc)
host_constructs id.Dynamic e = absurd (cc)
host_constructs id.Shared e = absurd (cc)
host_constructs _ e = refl

pub host_made : (k : TypeId) (h : Host) → is_type k (host_type h) ≡ true → typed_host_of k (fresh (host h)) ≡ Some h
host_made k h e = ap (λ b. if b then Some h else None) e

-- a host type differs from every other type
apart : (k o : TypeId) → is_host_type k ≡ true → is_host_type o ≡ false → false ≡ is_type k o
apart k o e f = decided (is_type k o) (λ same. sym e ∙ ap is_host_type (one_type k o same) ∙ f)
  where
    decided : (b : Bool) → (b ≡ true → true ≡ false) → false ≡ b
    decided true h = sym (h refl)
    decided false h = refl

-- a value of another type has no part of a host type
none_at : (k o : TypeId) (c : Content) → is_host_type k ≡ true → is_host_type o ≡ false → None ≡ (if is_type k o then Some c else None)
none_at k o c e f = ap (λ (b : Bool). if b then Some c else None) (apart k o e f)

some_if : (b : Bool) (h : Host) → option_map (λ x. leaf (host x)) (if b then Some h else None) ≡ (if b then Some (leaf (host h)) else None)
some_if true h = refl
some_if false h = refl

pub host_reads : (k : TypeId) → is_host_type k ≡ true → (t : Tree) → option_map (λ h. leaf (host h)) (typed_host_of k t) ≡ typed_content k t
host_reads k e (node (leaf (host h)) g m) = some_if (is_type k (host_type h)) h
host_reads k e (node (leaf unit) g m) = none_at k id.Unit (leaf unit) e refl
host_reads k e (node (leaf (bool b)) g m) = none_at k id.Bool (leaf (bool b)) e refl
host_reads k e (node (leaf (int n)) g m) = none_at k id.Int (leaf (int n)) e refl
host_reads k e (node (leaf (char c)) g m) = none_at k id.Char (leaf (char c)) e refl
host_reads k e (node (leaf (text s)) g m) = none_at k id.ImmutableString (leaf (text s)) e refl
host_reads k e (node (leaf (blob bs)) g m) = none_at k id.Blob (leaf (blob bs)) e refl
host_reads k e (node (branch array ts) g m) = none_at k id.Array (branch array ts) e refl
host_reads k e (node (fields fs) g m) = none_at k id.Map (fields fs) e refl
host_reads k e (node (branch (function f) ts) g m) = none_at k id.FnPtr (branch (function f) ts) e refl
host_reads k e (node (holder c) g m) = none_at k id.Shared (holder c) e refl

pub unit_reads : (t : Tree) → option_map (λ x. leaf unit) (unit_of t) ≡ typed_content id.Unit t
unit_reads (node (leaf (host (host_kind.U8 n))) g m) = refl
unit_reads (node (branch array ts) g m) = refl
unit_reads _ = refl

pub bool_reads : (t : Tree) → option_map (λ x. leaf (bool x)) (bool_of t) ≡ typed_content id.Bool t
bool_reads (node (leaf (host (host_kind.U8 n))) g m) = refl
bool_reads (node (branch array ts) g m) = refl
bool_reads _ = refl

pub int_reads : (t : Tree) → option_map (λ x. leaf (int x)) (int_of t) ≡ typed_content id.Int t
int_reads (node (leaf (host (host_kind.U8 n))) g m) = refl
int_reads (node (branch array ts) g m) = refl
int_reads _ = refl

pub char_reads : (t : Tree) → option_map (λ x. leaf (char x)) (char_of t) ≡ typed_content id.Char t
char_reads (node (leaf (host (host_kind.U8 n))) g m) = refl
char_reads (node (branch array ts) g m) = refl
char_reads _ = refl

pub text_reads : (t : Tree) → option_map (λ x. leaf (text x)) (text_of t) ≡ typed_content id.ImmutableString t
text_reads (node (leaf (host (host_kind.U8 n))) g m) = refl
text_reads (node (branch array ts) g m) = refl
text_reads _ = refl

pub blob_reads : (t : Tree) → option_map (λ x. leaf (blob x)) (blob_of t) ≡ typed_content id.Blob t
blob_reads (node (leaf (host (host_kind.U8 n))) g m) = refl
blob_reads (node (branch array ts) g m) = refl
blob_reads _ = refl

pub array_reads : (t : Tree) → option_map (λ x. branch array x) (array_of t) ≡ typed_content id.Array t
array_reads (node (leaf (host (host_kind.U8 n))) g m) = refl
array_reads (node (branch array ts) g m) = refl
array_reads _ = refl

pub map_reads : (t : Tree) → option_map (λ x. fields x) (map_of t) ≡ typed_content id.Map t
map_reads (node (leaf (host (host_kind.U8 n))) g m) = refl
map_reads (node (branch array ts) g m) = refl
map_reads _ = refl

pub function_reads : (t : Tree) → option_map (λ x. branch (function x.0) x.1) (function_of t) ≡ typed_content id.FnPtr t
function_reads (node (leaf (host (host_kind.U8 n))) g m) = refl
function_reads (node (branch array ts) g m) = refl
function_reads _ = refl
