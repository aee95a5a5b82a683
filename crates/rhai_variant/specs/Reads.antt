-- Reading values as a Rust type, and writing as that type: the name of the type determines both.
use Rattle.std.specs.Prelude.{◌≡◌, true, false, Option, Some, None, option_map, refl}
use Rattle.std.proofs.Common.{sym, ap, ◌∙◌}
use Rattle.rhai_value.specs.declared.value.type_id.TypeId.{TypeId}
use Rattle.rhai_value.specs.declared.value.type_id.TypeId.TheVariants as id
use Rattle.rhai_value.specs.Parts.{with_content}
use Rattle.rhai_value.specs.Tree.{Tree, Content, content_of, made}
use Rattle.rhai_value.specs.Types.{is_type, is_content_type, typed_content}

-- the type of the values that are read as this type: a `String` is read from a text, any other type from its own values
abbrev pub held_type : TypeId → TypeId
held_type id.String = id.ImmutableString
held_type k = k

-- the content read from a value, as the value made from it: for `Dynamic` the value itself;
-- otherwise its content, with tag 0 and mode ReadWrite, if it is of the type
abbrev pub read : TypeId → Tree → Option Tree
read id.Dynamic t = Some t
read k t = option_map made (typed_content (held_type k) t)

-- the same by reference: no value has a `String`
abbrev pub viewed : TypeId → Tree → Option Tree
viewed id.String t = None
viewed k t = read k t

-- a value after w was written through such a reference: for `Dynamic` the whole value, otherwise its content
abbrev pub written_as : TypeId → Tree → Tree → Tree
written_as id.Dynamic w t = w
written_as k w t = with_content (content_of w) t

-- ---- the same for the types that have constructors

read_is : (k : TypeId) (t : Tree) → is_content_type k ≡ true → read k t ≡ option_map made (typed_content k t)
read_is id.String t p = absurd (cc)
read_is id.Dynamic t p = absurd (cc)
read_is _ t p = refl

pub not_shared : (k : TypeId) → is_content_type k ≡ true → is_type k id.Shared ≡ false
not_shared id.Shared p = absurd (cc)
not_shared _ p = refl

-- a value made from a content is read as that content
pub made_read : {A : Type 0} (k : TypeId) (content : A → Content) (part : Tree → Option A) (x : A) → is_content_type k ≡ true
    → ((t : Tree) → option_map content (part t) ≡ typed_content k t) → part (made (content x)) ≡ Some x
    → read k (made (content x)) ≡ Some (made (content x))
made_read k content part x p reads e =
    read_is k (made (content x)) p ∙ ap (option_map made) (sym (reads (made (content x)))) ∙ ap (λ o. option_map made (option_map content o)) e
