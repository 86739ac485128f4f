use borrow.Author.Rules.{rules}
use mathlib.Core.Path.{◌≡◌, refl, ap, ◌∙◌}
use Rattle.table.specs.Table.{found_node}
use Rattle.ordered.specs.Promises.{asks, unless, Walks}
use Rattle.ordered.proofs.Ends.{ends_in}
use Rattle.ordered.proofs.Idents.{known-ends, new-ends, new-few, var-below, ident_here, ident-asking, ident-ends}
use Rattle.ordered.proofs.walk_ident_term.Given as given
use Rattle.ordered.proofs.walk_ident_term.Goals as goal
use Rattle.ordered.proofs.walk_ident_term.Goals.{Joined-is_known, then-is_known, else-is_known}

-- the ident introduced, unless it is known
bound : (g : given.Over) (c : Joined-is_known g) → Walks (unless c.args.builder.now.image.now c.is_known.result c.args.ident.0.0) c.args.builder.now c.args.current c.if-is_known.builder c.if-is_known.exit
bound g c =
    elim c.if-is_known.branch [
      | then-is_known w ↦ ends_in _ w.builder-is w.exit-is refl (known-ends _ _ w.if-is_known.true c.requires.0.1)
      | else-is_known w ↦ ends_in _ w.builder-is w.exit-is refl (new-ends _ _ _ w.if-is_known.false w.introduce-exit.ensures.walk w.introduce-exit.ensures.stands)
    ]

pub stands-before-requires : goal.stands-before-requires
stands-before-requires g c = var-below _ c.requires.0.0 c.requires.1 c.ident_term-name.ensures

pub introduce-exit-requires : goal.introduce-exit-requires
introduce-exit-requires g c =
    let o = ident_here _ c.requires.0.0 c.requires.1 c.ident_term-name.ensures (g.met.R.Role.here _) c.requires.0.1 c.stands-before.ensures (c.is_known.ensures ∙ ap (asks _ _) (ap found_node c.found.ensures)) in
    let f = new-few _ _ _ c.if-is_known.false o.few in
    (c.requires.0.1, o.named, f.0, f.1)

pub leave_asked-requires : goal.leave_asked-requires
leave_asked-requires g c =
    let o = ident_here _ c.requires.0.0 c.requires.1 c.ident_term-name.ensures (g.met.R.Role.here _) c.requires.0.1 c.stands-before.ensures (c.is_known.ensures ∙ ap (asks _ _) (ap found_node c.found.ensures)) in
    let k : c.if-is_known.builder.image.now ≡ c.args.builder.now.image.now = search rules in
    rw (c.leave-named.ensures.keeps.image, k) (ident-asking _ o c.requires.0.1 c.stands-before.ensures (bound g (goal.at.leave_asked-requires g c).Joined-is_known) (rw k at c.leave-named.ensures.walk) c.leave-named.ensures.env)

pub returns-clause-walk : goal.returns-clause-walk
returns-clause-walk g c =
    let o = ident_here _ c.requires.0.0 c.requires.1 c.ident_term-name.ensures (g.met.R.Role.here _) c.requires.0.1 c.stands-before.ensures (c.is_known.ensures ∙ ap (asks _ _) (ap found_node c.found.ensures)) in
    let k : c.if-is_known.builder.image.now ≡ c.args.builder.now.image.now = search rules in
    ident-ends _ o (bound g (goal.at.returns-clause-walk g c).Joined-is_known) (rw k at c.leave-named.ensures.walk) (cc) (rw (c.leave-named.ensures.keeps.image, k) at c.leave_asked.ensures.stands)
