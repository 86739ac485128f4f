use mathlib.Core.Path.{refl, sym, ap}
use native.Mathlib.Omega.{arith}
use Rattle.typed.proofs.Enums.{decl-is}
use Rattle.rows.proofs.Parts.{appends-as, appends-no, left-start, left-next, left_end, left-room}
use Rattle.typed.proofs.Lists.{begun, taken, none-left}
use Rattle.bindings.specs.Errors.{decls_rows}
use Rattle.environment.specs.Reading.{seen}
use Rattle.bindings.proofs.Leaves.{fits-as}
use Rattle.bindings.proofs.Cases.{no_body}
use Rattle.bindings.proofs.RowLaws.{decl-none}
use Rattle.bindings.proofs.Bodies.{decls-more, decls-none, decl-rule, decl-model}
use borrow.Enum.Refused.{opened}
use Rattle.bindings.proofs.BindingsChecker.+decls.Goals as goal

pub walk_decl-walk_stmt_block-requires : goal.walk_decl-walk_stmt_block-requires
walk_decl-walk_stmt_block-requires t c = let s = decl-is _ c.requires.is c.decl.ensures c.in-Rule.is in let o = decl-rule _ _ c.requires.is s.number s.child c.rule_decl.ensures.list in record { run = o.run; fits = fits-as _ o.same c.requires.fits }

pub walk_decl-walk_decls-requires : goal.walk_decl-walk_decls-requires
walk_decl-walk_decls-requires t c = let s = decl-is _ c.requires.is c.decl.ensures c.in-Model.is in let o = decl-model _ _ c.requires.is s.number s.child c.model_decl.ensures.list in (let l = o.low in omega arith, record { run = o.run; fits = fits-as _ o.same c.requires.fits })

pub walk_decl-returns-in-Type : goal.walk_decl-returns-in-Type
walk_decl-returns-in-Type t c = let h = no_body _ c.requires.is c.decl.ensures (opened c.in-Type.in-Type-own.keys1) in appends-no _ (decl-none _ _ c.requires.is h.0 h.1)

pub walk_decl-returns-in-Rule : goal.walk_decl-returns-in-Rule
walk_decl-returns-in-Rule t c = let s = decl-is _ c.requires.is c.decl.ensures c.in-Rule.is in let o = decl-rule _ _ c.requires.is s.number s.child c.rule_decl.ensures.list in appends-as (sym o.same) c.walk_stmt_block.ensures

pub walk_decl-returns-in-Model : goal.walk_decl-returns-in-Model
walk_decl-returns-in-Model t c = let s = decl-is _ c.requires.is c.decl.ensures c.in-Model.is in let o = decl-model _ _ c.requires.is s.number s.child c.model_decl.ensures.list in appends-as (sym o.same) c.walk_decls.ensures

pub walk_decls-loop-decl-init : goal.walk_decls-loop-decl-init
walk_decls-loop-decl-init t c = let o = begun c.into_iter-decl-iterator.ensures.into_iter_gives refl c.requires.run c.of-decl-items.ensures in (o.within, left-start _ (ap (seen decls_rows c.args.self.now.scopes) o.trees) c.requires.fits)

pub walk_decls-walk_decl-requires : goal.walk_decls-walk_decl-requires
walk_decls-walk_decl-requires t c = let o = taken c.loop-decl.invariant.0 c.in-Some.ensures.steps.0 c.in-Some.ensures.steps.1 in (let l = o.low in omega arith, record { is = o.is; fits = left-room _ _ c.loop-decl.invariant.1 (decls-more _ _ _ o.trees) })

pub walk_decls-loop-decl-preserved : goal.walk_decls-loop-decl-preserved
walk_decls-loop-decl-preserved t c = let o = taken c.loop-decl.invariant.0 c.in-Some.ensures.steps.0 c.in-Some.ensures.steps.1 in (o.rest, left-next c.loop-decl.invariant.1 (decls-more _ _ _ o.trees) c.walk_decl.ensures)

pub walk_decls-returns : goal.walk_decls-returns
walk_decls-returns t c = left_end c.loop-decl.invariant.1 (decls-none _ _ (none-left c.loop-decl.decl-iterator c.in-None.ensures.steps))
