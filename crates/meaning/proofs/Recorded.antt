-- At every node of a rule, lookup at the entry and at the exit that Resolve recorded for it is the environment before and after it.
use mathlib.Core.Path.{◌≡◌, sym, subst}
use mathlib.Core.Logic.{inl, inr}
use mathlib.Core.List.{List, [], ◌∷◌, ◌++◌}
use Prim.Native.Nat.{ℕ}
use Rattle.ast.specs.Image.{kind_at, name_of}
use Rattle.ast.specs.Kinds.{outer, inner, plain, term, ident, head, head_member, member, case, if_var, defined_then, arg}
use Rattle.ast.specs.Rules.{Rule, module_rules}
use Rattle.ast.specs.Tests.{verdict}
use Rattle.ast.specs.Tree.{Tree, node, block, Trees, none, ◌◂◌}
use Rattle.table.specs.State.{Walked}
use Rattle.table.specs.Table.{Table}
use Rattle.scopes.specs.Resolve.{walked, counted}
use Rattle.scopes.specs.Walk.{done}
use Rattle.sight.specs.Sight.{In}
use Rattle.meaning.specs.Meaning.{Env, Part, occurs, declares, names, defines, head_part}
use Rattle.meaning.specs.Meetings.{Meeting, meetings, meetings_seq, meetings_then, rule_meetings}
use Rattle.meaning.specs.Recorded.{Recorded}
use Rattle.meaning.proofs.Told.{meets, Told, ToldSeq, ToldThen}
use Rattle.meaning.proofs.Rules.{rules-told}

module _ (img : List ℕ) (T : Table) where
  data Each : List Meeting → Type 0 where
    nil : Each []
    cons : {w : Meeting} {ws : List Meeting} → Recorded img T w → Each ws → Each (w ∷ ws)

  both : {vs ws : List Meeting} → Each vs → Each ws → Each (vs ++ ws)
  both nil g = g
  both (cons r f) g = cons r (both f g)

  one : {ws : List Meeting} → Each ws → (w : Meeting) → In w ws → Recorded img T w
  one nil w i = absurd i
  one (cons r f) w (inl q) = subst (Recorded img T) (sym q) r
  one (cons r f) w (inr i) = one f w i

  abbrev name : ℕ → ℕ
  name = name_of img

  abbrev kind : ℕ → ℕ
  kind = kind_at img

  mutual
    unfolding Told meetings

    each : (p : Part) (u : Tree) (env : Env) → Told img T p u env → Each (meetings name kind p u env)
    each p (block ts) env t = each_seq occurs ts env t
    each p (node n k (outer c) sh ts) env t = nil
    each p (node n k (inner plain) sh ts) env t = cons t.0 (each_seq occurs ts env t.1)
    each p (node n k (inner term) sh ts) env t = cons t.0 (each_seq p ts env t.1)
    each p (node n k (inner ident) sh ts) env t = cons t nil
    each p (node n k (inner head) sh ts) env t = cons t.0 (each_seq (head_part sh) ts env t.1)
    each p (node n k (inner head_member) sh ts) env t = each_then names ts env t
    each p (node n k (inner member) sh ts) env t = cons t.0 (each_then names ts env t.1)
    each p (node n k (inner case) sh ts) env t = cons t.0 (each_seq occurs ts env t.1)
    each p (node n k (inner if_var) sh ts) env t = cons t.0 (each_then declares ts env t.1)
    each p (node n k (inner defined_then) sh ts) env t = cons t.0 (each_then (defines env) ts env t.1)
    each p (node n k (inner arg) sh ts) env t = nil

    each_seq : (p : Part) (us : Trees) (env : Env) → ToldSeq img T p us env → Each (meetings_seq name kind p us env)
    each_seq p none env t = nil
    each_seq p (u ◂ us) env t = both (each p u env t.0) (each_seq p us (meets img T p u env) t.1)

    each_then : (p : Part) (us : Trees) (env : Env) → ToldThen img T p us env → Each (meetings_then name kind p us env)
    each_then p none env t = nil
    each_then p (u ◂ us) env t = both (each occurs u env t.0) (each_seq p us (meets img T occurs u env) t.1)

-- in the table of the walk, its counts in front
pub rules-recorded : (img tab : List ℕ) (e : Walked) → verdict img ≡ 0 → walked img tab ≡ done e → (r : Rule) → In r (module_rules img)
    → (w : Meeting) → In w (rule_meetings (name_of img) (kind_at img) r) → Recorded img (counted img e.table) w
unfolding rule_meetings
rules-recorded img tab e accepted q r i = one img (counted img e.table) (each_seq img (counted img e.table) occurs r.statements r.meaning (rules-told img tab e accepted q r i))
