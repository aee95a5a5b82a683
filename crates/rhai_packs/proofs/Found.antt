-- Occurrences of parts in texts.
use Rattle.std.proofs.Common.{◌↔◌, ℕ, Bool, true, false, List, ◌++◌, None, Err, length, take, drop, IsTrue, refl, sym, ap, ◌∙◌, arith, length-append}
use Rattle.std.proofs.Math.Seq.{drop-append_seam}
use Rattle.std.proofs.lemmas.List.{take-append-drop}
use Rattle.std.specs.Bool.{MatchBool}
use Rattle.std.specs.Str.Pattern.{FindsText, HasMatch}
use Rattle.rhai_text.specs.declared.error.EvalAltResult.{EvalAltResult}
use Rattle.rhai_text.specs.declared.error.EvalAltResult.TheVariants.{ErrorMismatchDataType, ErrorDataRace, ErrorArithmetic, ErrorDataTooLarge, ErrorMemory}
use Rattle.rhai_text.specs.declared.limits.Limits.{Limits}
use Rattle.rhai_packs.specs.Texts.{HasPart, IsMadeText, IsRefusedText}

pub found : (b : Bool) (text part : List ℕ) → MatchBool b (HasMatch (FindsText part) text) (FindsText part text None) → IsTrue b ↔ HasPart text part
found true text part (i, j, f, le, fits) = (λ t. (take i text, drop j text, sym (take-append-drop i text) ∙ ap (λ r. take i text ++ r) f.1.split), λ h. refl)
found false text part none = (λ t. absurd (cc), λ h. absurd (none (length h.0) (omega (arith, ap length h.2, length-append h.0 (part ++ h.1))) h.1 (ap (drop (length h.0)) h.2 ∙ drop-append_seam h.0 (part ++ h.1))))

-- why a text wasn't made from another
pub refused_text : (l : Limits) (n : ℕ) (Makes : List ℕ → Type 0) (made : List ℕ) (e : EvalAltResult) → Makes made → IsMadeText {A = List ℕ} l n (length made) (Err e) → IsRefusedText l n Makes e
refused_text l n Makes made (ErrorDataTooLarge k p) m h = (made, m, h.0, h.1, h.2)
refused_text l n Makes made (ErrorMemory e) m h = tt
refused_text l n Makes made (ErrorMismatchDataType wanted found p) m h = h
refused_text l n Makes made (ErrorDataRace p) m h = h
refused_text l n Makes made (ErrorArithmetic f p) m h = h
