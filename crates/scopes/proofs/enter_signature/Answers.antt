use Rattle.scopes.proofs.Entries.{sig-quiet, entering-marked, sig-enters}
use Rattle.scopes.proofs.enter_signature.Goals as goal

pub insert_decl_symbol-requires : goal.insert_decl_symbol-requires
insert_decl_symbol-requires c =
    let w = c.insert_unordered.ensures.walk in
    rw c.insert_unordered.ensures.keeps.image (record {
      name = c.requires.1.name;
      entering = entering-marked _ w c.requires.0.below (sig-quiet _ c.requires.0) c.insert_unordered.ensures.env c.requires.1.entering;
    })

pub returns-clause-walk : goal.returns-clause-walk
returns-clause-walk c = sig-enters _ _ c.requires.0 c.insert_unordered.ensures.walk (rw c.insert_unordered.ensures.keeps.image at c.insert_decl_symbol.ensures.walk)
