use mathlib.Core.Path.{refl, ap, ◌∙◌}
use native.Mathlib.Omega.{arith}
use Prim.Native.Nat.{ℕ, ◌-◌}
use Rattle.ast.specs.Image.{last}
use Rattle.ast.proofs.Accepted.{sized}
use Rattle.scopes.proofs.Rooting.{root_visit}
use Rattle.scopes.proofs.walk_module.Goals as goal

pub overflow_sub-module : goal.overflow_sub-module
overflow_sub-module c = let s = (sized _ c.requires.accepted).some in omega arith

pub walk_decls-requires : goal.walk_decls-requires
unfolding last
walk_decls-requires c =
    let v = root_visit _ c.requires (ap (λ (k : ℕ). k - 1) c.node_count.ensures) c.new_scope-module_scope.ensures.walk (rw c.new_scope-module_scope.ensures.keeps.image at c.insert_unordered.ensures.walk) (c.insert_unordered.ensures.env ∙ c.new_scope-module_scope.ensures.env) (rw (c.insert_unordered.ensures.keeps.image, c.new_scope-module_scope.ensures.keeps.image) at c.module.ensures) in
    rw (c.insert_unordered.ensures.keeps.image, c.new_scope-module_scope.ensures.keeps.image) (v.list, v.opens)

pub returns-clause-walk : goal.returns-clause-walk
unfolding last
returns-clause-walk c =
    (root_visit _ c.requires (ap (λ (k : ℕ). k - 1) c.node_count.ensures) c.new_scope-module_scope.ensures.walk (rw c.new_scope-module_scope.ensures.keeps.image at c.insert_unordered.ensures.walk) (c.insert_unordered.ensures.env ∙ c.new_scope-module_scope.ensures.env) (rw (c.insert_unordered.ensures.keeps.image, c.new_scope-module_scope.ensures.keeps.image) at c.module.ensures)).visits
    (rw (c.insert_unordered.ensures.keeps.image, c.new_scope-module_scope.ensures.keeps.image) at c.walk_decls.ensures.walk) refl
