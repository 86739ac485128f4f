use mathlib.Core.Path.{sym}
use Rattle.environment.specs.Reading.{table_in}
use Rattle.rows.proofs.Parts.{appends-as, appends-no}
use Rattle.bindings.proofs.Cases.{no-app}
use Rattle.bindings.proofs.Leaves.{fits-as}
use Rattle.bindings.proofs.Bodies.{case-pattern, no-pattern, pattern-applied, applied-yes, applied-no}
use borrow.Enum.Refused.{opened}
use Rattle.bindings.proofs.BindingsChecker.check_match_case_pattern.Goals as goal

pub returns-in_default : goal.returns-in_default
returns-in_default c = let z = case-pattern _ c.requires.is c.match_case.ensures.first in appends-no _ (no-pattern _ _ c.requires.is c.match_case.ensures.first (no-app _ z c.term.ensures (opened c.in_default.in_default-own.keys2)))

pub is_ctor_head-requires : goal.is_ctor_head-requires
is_ctor_head-requires c = (pattern-applied _ (table_in c.args.self.now.scopes) c.requires.is c.match_case.ensures.first c.term.ensures c.in-App.is c.app_term.ensures).head

pub check_pattern_args-requires : goal.check_pattern_args-requires
check_pattern_args-requires c = let o = pattern-applied _ (table_in c.args.self.now.scopes) c.requires.is c.match_case.ensures.first c.term.ensures c.in-App.is c.app_term.ensures in record { is = o.args; fits = fits-as _ (applied-yes _ _ o c.is_ctor_head.ensures c.if-is_ctor_head.true) c.requires.fits }

pub returns-then-is_ctor_head : goal.returns-then-is_ctor_head
returns-then-is_ctor_head c = let o = pattern-applied _ (table_in c.args.self.now.scopes) c.requires.is c.match_case.ensures.first c.term.ensures c.in-App.is c.app_term.ensures in appends-as (sym (applied-yes _ _ o c.is_ctor_head.ensures c.if-is_ctor_head.true)) c.check_pattern_args.ensures

pub returns-else-is_ctor_head : goal.returns-else-is_ctor_head
returns-else-is_ctor_head c = let o = pattern-applied _ (table_in c.args.self.now.scopes) c.requires.is c.match_case.ensures.first c.term.ensures c.in-App.is c.app_term.ensures in appends-no _ (applied-no _ _ o c.is_ctor_head.ensures c.if-is_ctor_head.false)
