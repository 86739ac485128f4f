-- The nodes of a rule in the walk's order, each with the environment before and after it.
use Rattle.std.specs.Prelude.{List, [], ◌∷◌, ◌++◌, ℕ}
use Rattle.ast.specs.Kinds.{outer, inner, plain, term, ident, head, head_member, member, case, if_var, defined_then, arg}
use Rattle.ast.specs.Rules.{Rule}
use Rattle.ast.specs.Tree.{Tree, node, block, Trees, none, ◌◂◌}
use Rattle.meaning.specs.Meaning.{Env, Part, occurs, declares, names, defines, head_part, meet_ident, meet, meet_seq, meet_then}

-- a node, with the environment in which it is met and the one that it leaves
pub record Meeting : Type 0 where
  pub node : ℕ
  pub before : Env
  pub after : Env

abbrev pub meeting : ℕ → Env → Env → Meeting
meeting n env env' = record { node = n; before = env; after = env' }

module _ (name kind : ℕ → ℕ) where
  -- an AppHeadMember is none of them: the table records nothing for it
  unfoldable mutual
    unfolding meet_seq head_part

    pub meetings : Part → Tree → Env → List Meeting
    meetings p (block ts) env = meetings_seq occurs ts env
    meetings p (node n k (outer c) sh ts) env = []
    meetings p (node n k (inner plain) sh ts) env = meeting n env (meet_seq name kind occurs ts env) ∷ meetings_seq occurs ts env
    meetings p (node n k (inner term) sh ts) env = meeting n env (meet_seq name kind p ts env) ∷ meetings_seq p ts env
    meetings p (node n k (inner ident) sh ts) env = meeting n env (meet_ident name kind p n env) ∷ []
    meetings p (node n k (inner head) sh ts) env = meeting n env (meet_seq name kind (head_part sh) ts env) ∷ meetings_seq (head_part sh) ts env
    meetings p (node n k (inner head_member) sh ts) env = meetings_then names ts env
    meetings p (node n k (inner member) sh ts) env = meeting n env (meet_then name kind names ts env) ∷ meetings_then names ts env
    meetings p (node n k (inner case) sh ts) env = meeting n env env ∷ meetings_seq occurs ts env
    meetings p (node n k (inner if_var) sh ts) env = meeting n env (meet_then name kind declares ts env) ∷ meetings_then declares ts env
    meetings p (node n k (inner defined_then) sh ts) env = meeting n env (meet_then name kind (defines env) ts env) ∷ meetings_then (defines env) ts env
    meetings p (node n k (inner arg) sh ts) env = []

    pub meetings_seq : Part → Trees → Env → List Meeting
    meetings_seq p none env = []
    meetings_seq p (u ◂ us) env = meetings p u env ++ meetings_seq p us (meet name kind p u env)

    pub meetings_then : Part → Trees → Env → List Meeting
    meetings_then p none env = []
    meetings_then p (u ◂ us) env = meetings occurs u env ++ meetings_seq p us (meet name kind occurs u env)

  -- of a rule, from its outer meaning on
  unfoldable pub rule_meetings : Rule → List Meeting
  unfolding meetings_seq
  rule_meetings r = meetings_seq occurs r.statements r.meaning
