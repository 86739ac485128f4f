-- The table that resolving leaves tells of every rule of a module what the environments say, from the rule's outer meaning on.
use mathlib.Core.Path.{◌≡◌, ◌∙◌}
use mathlib.Core.List.{List}
use Prim.Native.Nat.{ℕ}
use native.Mathlib.Omega.{arith}
use Rattle.ast.specs.Rules.{Rule, module_rules}
use Rattle.ast.specs.Tests.{verdict}
use Rattle.table.specs.State.{Walked}
use Rattle.scopes.specs.Resolve.{walked, counted}
use Rattle.scopes.specs.Walk.{done}
use Rattle.sight.specs.Sight.{In}
use Rattle.sight.proofs.Moves.{walks_seq, framed}
use Rattle.sight.proofs.Resolving.{resolved}
use Rattle.meaning.specs.Meaning.{occurs}
use Rattle.meaning.proofs.Keeps.{walks-rise}
use Rattle.meaning.proofs.Told.{ToldSeq, rule_told}

pub rules-told : (img tab : List ℕ) (e : Walked) → verdict img ≡ 0 → walked img tab ≡ done e
    → (r : Rule) → In r (module_rules img) → ToldSeq img (counted img e.table) occurs r.statements r.meaning
rules-told img tab e accepted q r i =
    let w = (resolved img tab e accepted q).walks r i in
    let d = w.1 in
    let k = w.3 in
    let v = walks_seq img r.statements w.0 in
    let f = framed img v (d.scopes≤, d.symbols≤) d.small d.sane d.inside in
    let m = walks-rise img v in
    let n = d.inside in
    rule_told img (counted img e.table) (Unit {0}) r.statements d.body w.0
    (record { sane = d.sane; inside = d.inside; reads = λ x. k.lookups w.0.scope x (omega arith) ∙ f.later.lookups w.0.scope x d.inside ∙ w.2 x })
    (record {
      few = (d.scopes≤, d.symbols≤);
      small = d.small;
      lookups = k.lookups;
      distinct = λ q. d.distinct;
      entries = λ q n j. k.entries n (d.small n j) j;
      exits = λ q n j. k.exits n (d.small n j) j;
    })
    tt
