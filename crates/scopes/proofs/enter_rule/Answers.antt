use mathlib.Core.Path.{sym, ap, ◌∙◌}
use Rattle.typed.specs.Nodes.{name_word}
use Rattle.scopes.proofs.Entries.{rule-quiet, entering-marked, rule-passes, rule-enters, rule-entering, rule-name}
use Rattle.scopes.proofs.enter_rule.Goals as goal

pub insert_decl_symbol-requires : goal.insert_decl_symbol-requires
insert_decl_symbol-requires c =
    let w = sym (ap name_word c.in-Some.is) ∙ (rw c.insert_unordered.ensures.keeps.image at c.rule_decl-name.ensures.first) in
    rw c.insert_unordered.ensures.keeps.image (record {
      name = rule-name _ c.requires.0 w;
      entering = entering-marked _ c.insert_unordered.ensures.walk c.requires.0.below (rule-quiet _ c.requires.0) c.insert_unordered.ensures.env (rule-entering _ c.requires.0 w c.requires.1);
    })

pub returns-in-Some-clause-walk : goal.returns-in-Some-clause-walk
returns-in-Some-clause-walk c = rule-enters _ _ c.requires.0 (sym (ap name_word c.in-Some.is) ∙ (rw c.insert_unordered.ensures.keeps.image at c.rule_decl-name.ensures.first)) c.insert_unordered.ensures.walk (rw c.insert_unordered.ensures.keeps.image at c.insert_decl_symbol.ensures.walk)

pub returns-in-None-clause-walk : goal.returns-in-None-clause-walk
returns-in-None-clause-walk c = rule-passes _ c.requires.0 c.requires.1 (sym (rw c.insert_unordered.ensures.keeps.image at c.rule_decl-name.ensures.first) ∙ ap name_word c.in-None.is) c.insert_unordered.ensures.walk c.insert_unordered.ensures.env
