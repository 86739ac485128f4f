-- What is printed of the front is the report of the whole input.
use Rattle.report.proofs.Front.{whole}
use Rattle.report.proofs.run.Goals as goal

pub returns-clause-whole : goal.returns-clause-whole
returns-clause-whole g c = λ e. whole _ _ _ _ c.in-Some.ensures.bytes c.in_ok-print_report.ensures
