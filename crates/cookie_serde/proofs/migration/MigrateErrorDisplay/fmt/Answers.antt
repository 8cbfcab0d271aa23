use Rattle.std.proofs.Common.{refl}
use Rattle.cookie_serde.proofs.StyledTexts.{styled_before}
use Rattle.cookie_serde.proofs.migration.MigrateErrorDisplay.fmt.Goals as goal

pub returns-in_ok-write_line_number-in-Line-clause-styled : goal.returns-in_ok-write_line_number-in-Line-clause-styled
returns-in_ok-write_line_number-in-Line-clause-styled g c =
    rw (c.in-Line.is)
    (styled_before _ _ _ _ c.write_line_number.result _ _ _ c.write_line_number.ensures.styled
    (rw (c.in_ok-write_line_number-in-Line.was) refl) c.fmt.ensures.styled)
