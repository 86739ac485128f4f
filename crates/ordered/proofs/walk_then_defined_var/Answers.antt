use borrow.Author.Rules.{rules}
use mathlib.Core.Path.{◌≡◌, refl, ap, ◌∙◌}
use Rattle.table.specs.Table.{found_node, is_var}
use Rattle.ordered.specs.Promises.{unless, Walks}
use Rattle.ordered.proofs.Ends.{ends_in}
use Rattle.ordered.proofs.Idents.{known-ends, new-ends, new-few, defining-below, ident-asking, ident-ends, defined_atom, given-ends, atom-asked, defining_ident, defining-asking}
use Rattle.ordered.proofs.walk_then_defined_var.Goals as goal
use Rattle.ordered.proofs.walk_then_defined_var.Goals.{Joined-is_var, then-is_var, else-is_var}

-- the variable introduced, unless it was a Var before
bound : (c : Joined-is_var) → Walks (unless c.walk_term-after_term.new.builder.image.now c.is_var.result c.args.ident.0.0) c.walk_term-after_term.new.builder c.walk_term-after_term.result c.if-is_var.builder c.if-is_var.exit
bound c =
    elim c.if-is_var.branch [
      | then-is_var w ↦ ends_in _ w.builder-is w.exit-is refl (known-ends _ _ w.if-is_var.true (rw (← c.walk_term-after_term.ensures.keeps.image) at c.walk_term-after_term.ensures.walk.stands))
      | else-is_var w ↦ ends_in _ w.builder-is w.exit-is refl (new-ends _ _ _ w.if-is_var.false w.introduce-exit.ensures.walk w.introduce-exit.ensures.stands)
    ]

pub stands-at_atom-requires : goal.stands-at_atom-requires
stands-at_atom-requires c = defining-below _ c.requires.0.0 c.requires.1 c.ident_term-name.ensures

pub walk_term-after_term-requires : goal.walk_term-after_term-requires
walk_term-after_term-requires c = ((defined_atom _ c.requires.0.0 c.requires.1.defined c.requires.1.terms.second).parts.first, c.requires.0.1)

pub stands-entry-requires : goal.stands-entry-requires
stands-entry-requires c = defining-below _ c.requires.0.0 c.requires.1 c.ident_term-name.ensures

pub introduce-exit-requires : goal.introduce-exit-requires
introduce-exit-requires c =
    let o = defining_ident _ c.requires.0.0 c.requires.1 c.ident_term-name.ensures c.requires.0.1 c.stands-at_atom.ensures (rw c.walk_term-after_term.ensures.keeps.image at (c.is_var.ensures ∙ ap (is_var _) (ap found_node c.found.ensures))) c.walk_term-after_term.ensures.walk in
    let f = new-few _ _ _ c.if-is_var.false o.few in
    rw c.walk_term-after_term.ensures.keeps.image (c.walk_term-after_term.ensures.walk.stands, o.named, f.0, f.1)

pub leave_asked-defined-requires : goal.leave_asked-defined-requires
leave_asked-defined-requires c =
    let o = defining_ident _ c.requires.0.0 c.requires.1 c.ident_term-name.ensures c.requires.0.1 c.stands-at_atom.ensures (rw c.walk_term-after_term.ensures.keeps.image at (c.is_var.ensures ∙ ap (is_var _) (ap found_node c.found.ensures))) c.walk_term-after_term.ensures.walk in
    let j : c.if-is_var.builder.image.now ≡ c.args.builder.now.image.now = search rules in
    rw (c.leave-named.ensures.keeps.image, j) (ident-asking _ o c.walk_term-after_term.ensures.walk.stands c.stands-entry.ensures (rw c.walk_term-after_term.ensures.keeps.image at (bound (goal.at.leave_asked-defined-requires c).Joined-is_var)) (rw j at c.leave-named.ensures.walk) c.leave-named.ensures.env)

pub leave_asked-requires : goal.leave_asked-requires
leave_asked-requires c =
    let o = defining_ident _ c.requires.0.0 c.requires.1 c.ident_term-name.ensures c.requires.0.1 c.stands-at_atom.ensures (rw c.walk_term-after_term.ensures.keeps.image at (c.is_var.ensures ∙ ap (is_var _) (ap found_node c.found.ensures))) c.walk_term-after_term.ensures.walk in
    let d = defined_atom _ c.requires.0.0 c.requires.1.defined c.requires.1.terms.second in
    let j : c.if-is_var.builder.image.now ≡ c.args.builder.now.image.now = search rules in
    let n = rw (c.leave-named.ensures.keeps.image, j) at c.leave_asked-defined.ensures in
    let h =
    given-ends _ _ d c.requires.1.terms.first c.walk_term-after_term.ensures.walk
    (ident-ends _ o (rw c.walk_term-after_term.ensures.keeps.image at (bound (goal.at.leave_asked-requires c).Joined-is_var)) (rw j at c.leave-named.ensures.walk) n.walk n.stands)
    (rw (c.leave_asked-defined.ensures.keeps.image, c.leave-named.ensures.keeps.image, j) at c.leave-left.ensures.walk) c.leave-left.ensures.env
    in
    rw (c.leave-left.ensures.keeps.image, c.leave_asked-defined.ensures.keeps.image, c.leave-named.ensures.keeps.image, j) (defining-asking _ c.requires.0.0 c.requires.1 o c.requires.0.1 c.stands-at_atom.ensures h)

pub returns-clause-walk : goal.returns-clause-walk
returns-clause-walk c =
    let o = defining_ident _ c.requires.0.0 c.requires.1 c.ident_term-name.ensures c.requires.0.1 c.stands-at_atom.ensures (rw c.walk_term-after_term.ensures.keeps.image at (c.is_var.ensures ∙ ap (is_var _) (ap found_node c.found.ensures))) c.walk_term-after_term.ensures.walk in
    let d = defined_atom _ c.requires.0.0 c.requires.1.defined c.requires.1.terms.second in
    let j : c.if-is_var.builder.image.now ≡ c.args.builder.now.image.now = search rules in
    let n = rw (c.leave-named.ensures.keeps.image, j) at c.leave_asked-defined.ensures in
    let h =
    given-ends _ _ d c.requires.1.terms.first c.walk_term-after_term.ensures.walk
    (ident-ends _ o (rw c.walk_term-after_term.ensures.keeps.image at (bound (goal.at.returns-clause-walk c).Joined-is_var)) (rw j at c.leave-named.ensures.walk) n.walk n.stands)
    (rw (c.leave_asked-defined.ensures.keeps.image, c.leave-named.ensures.keeps.image, j) at c.leave-left.ensures.walk) c.leave-left.ensures.env
    in
    let a = rw (c.leave-left.ensures.keeps.image, c.leave_asked-defined.ensures.keeps.image, c.leave-named.ensures.keeps.image, j) at c.leave_asked.ensures in
    atom-asked _ d h a.walk a.stands
