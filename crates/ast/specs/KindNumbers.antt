-- The kinds of node as the code has them, and their numbers.
use Rattle.std.specs.Prelude.{◌≡◌, ℕ, ◌<◌, Result, MatchResult}
use Rattle.ast.specs.declared.kind.Kind.{Kind}
use Rattle.ast.specs.declared.kind.Kind.TheVariants as kind
use Rattle.ast.specs.declared.kind.UnknownKind.{UnknownKind}

-- a kind's number in document 01's table of kinds
abbrev pub kind_number : Kind → ℕ
kind_number kind.Module = 0
kind_number kind.Decl = 1
kind_number kind.TypeDecl = 2
kind_number kind.PredDecl = 3
kind_number kind.FuncDecl = 4
kind_number kind.ConstDecl = 5
kind_number kind.RuleDecl = 6
kind_number kind.EnumDecl = 7
kind_number kind.ModelDecl = 8
kind_number kind.CtorDecl = 9
kind_number kind.ArgDecl = 10
kind_number kind.ArgDeclList = 11
kind_number kind.Term = 12
kind_number kind.IdentTerm = 13
kind_number kind.AppTerm = 14
kind_number kind.AppHead = 15
kind_number kind.AppHeadMember = 16
kind_number kind.TermMember = 17
kind_number kind.DomTerm = 18
kind_number kind.CodTerm = 19
kind_number kind.IdTerm = 20
kind_number kind.CompTerm = 21
kind_number kind.TermList = 22
kind_number kind.TypeExpr = 23
kind_number kind.AmbientTypeExpr = 24
kind_number kind.MorTypeExpr = 25
kind_number kind.PredExpr = 26
kind_number kind.AmbientPredExpr = 27
kind_number kind.IfAtom = 28
kind_number kind.ThenAtom = 29
kind_number kind.EqualAtom = 30
kind_number kind.PredAtom = 31
kind_number kind.DefinedIfAtom = 32
kind_number kind.VarIfAtom = 33
kind_number kind.DefinedThenAtom = 34
kind_number kind.MatchCase = 35
kind_number kind.Stmt = 36
kind_number kind.IfStmt = 37
kind_number kind.ThenStmt = 38
kind_number kind.BranchStmt = 39
kind_number kind.MatchStmt = 40

-- the result is the kind with this number, or says that no kind has it
abbrev pub Decodes : ℕ → Result Kind UnknownKind → Type 0
Decodes number r = MatchResult r (λ k. kind_number k ≡ number) (λ e. (e.0 ≡ number) × (40 < number))
