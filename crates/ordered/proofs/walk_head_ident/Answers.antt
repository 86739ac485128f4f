use borrow.Author.Rules.{rules}
use mathlib.Core.Path.{◌≡◌, refl}
use Rattle.ordered.proofs.Idents.{known-ends, head-below, ident_head, ident-asking, ident-ends}
use Rattle.ordered.proofs.walk_head_ident.Goals as goal

pub stands-before-requires : goal.stands-before-requires
stands-before-requires c = head-below _ c.requires.0.0 c.requires.1 c.ident_term-name.ensures

pub leave_asked-requires : goal.leave_asked-requires
leave_asked-requires c =
    let o = ident_head _ c.requires.0.0 c.requires.1 c.ident_term-name.ensures c.requires.0.1 in
    let k : c.leave-named.new.self.image.now ≡ c.args.builder.now.image.now = search rules in
    rw k (ident-asking _ o c.requires.0.1 c.stands-before.ensures (known-ends _ _ refl c.requires.0.1) c.leave-named.ensures.walk c.leave-named.ensures.env)

pub returns-clause-walk : goal.returns-clause-walk
returns-clause-walk c =
    let o = ident_head _ c.requires.0.0 c.requires.1 c.ident_term-name.ensures c.requires.0.1 in
    let k : c.leave-named.new.self.image.now ≡ c.args.builder.now.image.now = search rules in
    ident-ends _ o (known-ends _ _ refl c.requires.0.1) c.leave-named.ensures.walk (cc) (rw k at c.leave_asked.ensures.stands)
