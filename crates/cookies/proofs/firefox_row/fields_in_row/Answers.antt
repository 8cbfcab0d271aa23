use Rattle.std.proofs.Common.{rules, arith, w64, SFits}
use Rattle.std.proofs.lemmas.Int.{to_z-of_z}
use Rattle.cookies.specs.FirefoxRows.{fields_in_row}
use Rattle.cookies.proofs.firefox_row.fields_in_row.Goals as goal

pub returns : goal.returns
unfolding fields_in_row
returns c =
    let time : SFits w64 c.in_ok-number_at.field-0 = search rules in
    rw (
      ← c.text_at.ensures,
      c.in_ok-text_at.was,
      ← c.text_at-2.ensures,
      c.in_ok-domain.was,
      ← c.flag_at.ensures,
      c.in_ok-is_secure.was,
      ← c.text_at-3.ensures,
      c.in_ok-text_at-2.was,
      ← c.text_at-4.ensures,
      c.in_ok-text_at-3.was,
      ← c.text_at-5.ensures,
      c.in_ok-text_at-4.was,
      ← c.number_at.ensures,
      c.in_ok-number_at.was,
      ← c.flag_at-2.ensures,
      c.in_ok-flag_at.was,
      c.expiry_at.ensures,
      c.same_site.ensures,
      to_z-of_z w64 _ time,
    ) (grind (arith, c.starts_with.ensures.byte))
