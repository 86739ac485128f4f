use mathlib.Core.Path.{sym, ap, ◌∙◌}
use Rattle.table.proofs.Finds.{lookup-node}
use Rattle.table.specs.Table.{found_node, is_kind}
use Rattle.table.specs.Values.{found_of}
use Rattle.ast.specs.Named.{ctor_decl_kind}
use Rattle.typed.proofs.Enums.{app-head-is}
use Rattle.bindings.proofs.RowLaws.{ctor-none, ctor-ident}
use Rattle.bindings.proofs.Cases.{no_name}
use Rattle.bindings.proofs.Looked.{head-asks}
use borrow.Enum.Refused.{opened}
use Rattle.bindings.proofs.BindingsChecker.is_ctor_head.Goals as goal

pub at_exit-found-requires : goal.at_exit-found-requires
at_exit-found-requires c = let o = app-head-is _ c.requires c.app_head.ensures c.in-Ident.is in head-asks _ c.requires o.number o.child

pub returns-in-Ident : goal.returns-in-Ident
returns-in-Ident c = let o = app-head-is _ c.requires c.app_head.ensures c.in-Ident.is in c.is_kind.ensures ∙ ap (λ k. is_kind c.args.self.now.scopes.image.now k (found_node (found_of c.at_exit-found.result))) c.from.ensures ∙ ap (is_kind _ ctor_decl_kind) (lookup-node _ _ _ _ c.at_exit-found.ensures) ∙ sym (ctor-ident _ _ c.requires o.number o.child)

pub returns-in-Member : goal.returns-in-Member
returns-in-Member c = sym (ctor-none _ _ c.requires (no_name _ c.requires c.app_head.ensures (opened c.in-Member.in-Member-own.keys2)))
