use Rattle.std.proofs.Common.{◌++◌, codes, string_bytes, refl}
use Rattle.std.specs.Str.{chars}
use Rattle.rhai_text.specs.Quote.{quoted_text}
use Rattle.rhai_show.proofs.ForCallers.{added_fixed, added_more}
use Rattle.rhai_packs.specs.Json.{comma_unless}
use Rattle.rhai_packs.proofs.maps.json.next_member.Goals as goal

pub returns-in_ok-add_text-in-Some-clause-text : goal.returns-in_ok-add_text-in-Some-clause-text
returns-in_ok-add_text-in-Some-clause-text c =
    let old = chars (string_bytes c.args.out.now) in
    let comma = chars (string_bytes c.add_comma.new.out) in
    let quoted = chars (string_bytes c.quoted_text_into.new.out) in
    let new = chars (string_bytes c.add_text.new.out) in
    let colon = added_fixed new quoted (codes ":") refl c.in_ok-add_text-in-Some.ensures.text in
    let both = added_more new quoted comma (quoted_text (chars c.in-Some.key.now)) (codes ":") c.in_ok-quoted_text_into-in-Some.ensures.characters colon in
    (c.in-Some.key.now, c.in-Some.ensures.steps, refl, refl, added_more new comma old (comma_unless c.args.object.now.is_first) (quoted_text (chars c.in-Some.key.now) ++ codes ":") c.in_ok-add_comma-in-Some.ensures.text both)
