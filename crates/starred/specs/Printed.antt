-- ★A's report whole, as document 01 prints it.
use Rattle.std.specs.Prelude.{◌≡◌}
use Rattle.std.proofs.Common.{ap}
use Rattle.lines.specs.Bytes.{text, digits_to, digits, numbers, line_bytes, lines_bytes, report_bytes}
use Rattle.starred.specs.Starred.{bytes_a, case_a}

printed : report_bytes bytes_a ≡ text "resolved 2 1\nvar 1 0\nvar 3 0\nend ok\n"
unfolding text digits_to digits numbers line_bytes lines_bytes report_bytes
printed = ap lines_bytes case_a
