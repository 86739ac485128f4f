use borrow.Author.Rules.{rules}
use Rattle.rows.proofs.Appends.{wrote}
use Rattle.occurrences.proofs.OccurrencesChecker.write_rows.Goals as goal

pub returns : goal.returns
returns c = wrote c.args.self.now.whole.few c.node_count.ensures c.begin-rows.ensures c.collect_module.ensures (search rules)
