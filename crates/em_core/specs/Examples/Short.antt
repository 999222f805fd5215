-- Short names for Cores that are written by hand.
use Rattle.std.specs.Prelude.{ℕ, pos, Bool, true, false, List, [], ◌∷◌, ◌++◌, Option, Some, None, codes}
use Rattle.em_core.specs.declared.ty.Ty.{Ty, Unit, Def, Int, Closure, roll-Ty}
use Rattle.em_core.specs.declared.ty.Ty.TheOpen.{Ty-F}
use Rattle.em_base.specs.declared.int_kind.IntKind.TheVariants.{I32}
use Rattle.em_core.specs.declared.ty.ClosureKind.{ClosureKind}
use Rattle.em_core.specs.declared.expr.Expr.{Expr, roll-Expr}
use Rattle.em_core.specs.declared.expr.Expr.TheOpen.{Expr-F}
use Rattle.em_core.specs.declared.expr.Piece.TheVariants as piece
use Rattle.em_core.specs.declared.operator.Constant.TheVariants as constant
use Rattle.em_core.specs.declared.operator.BinaryOp.{BinaryOp}
use Rattle.em_core.specs.declared.operator.CompareOp.TheVariants as compare
use Rattle.em_core.specs.declared.place.Base.TheVariants as base
use Rattle.em_core.specs.declared.place.PlaceStep.TheVariants as along
use Rattle.em_core.specs.declared.place.PlaceExpr.{PlaceExpr}
use Rattle.em_core.specs.declared.definition.TypeDef.{TypeDef}
use Rattle.em_core.specs.declared.function.Capture.{Capture}
use Rattle.em_core.specs.declared.function.FieldStep.{FieldStep}
use Rattle.em_core.specs.declared.function.Variable.{Variable}
use Rattle.em_core.specs.declared.function.Function.{Function}
use Rattle.em_core.specs.declared.function.ClosureEntry.{ClosureEntry}
use Rattle.em_core.specs.declared.mention.By.{By}
use Rattle.em_core.specs.declared.methods.Methods.{Methods}
use Rattle.em_core.specs.declared.program.Core.{Core}
use Rattle.em_core.specs.Values.{Event, Printed, Dropped}
use Rattle.em_core.specs.Runs.{Seen}

-- ---- types

abbrev pub int : Ty
int = Int I32

abbrev pub unique : Ty → Ty
unique t = roll-Ty (Ty-F.Ref t true)

abbrev pub shared : Ty → Ty
shared t = roll-Ty (Ty-F.Ref t false)

abbrev pub array : Ty → ℕ → Ty
array t n = roll-Ty (Ty-F.Array t n)

-- the type of D
abbrev pub ty_d : Ty
ty_d = Def 0

-- ---- expressions

abbrev pub unit : Expr
unit = roll-Expr (Expr-F.Const constant.Unit)

abbrev pub num : ℕ → Expr
num n = roll-Expr (Expr-F.Const (constant.Int I32 (pos n)))

abbrev pub slot : ℕ → PlaceExpr
slot s = record { base = base.Slot s; steps = [] }

abbrev pub root : ℕ → PlaceExpr
root k = record { base = base.Root k; steps = [] }

-- a field of a struct, what a reference or a box leads to, an element
abbrev pub dot : PlaceExpr → (def field : ℕ) → PlaceExpr
dot p d i = record p { steps = p.steps ++ along.Field d 0 i ∷ [] }

abbrev pub deref : PlaceExpr → PlaceExpr
deref p = record p { steps = p.steps ++ along.Deref ∷ [] }

abbrev pub at : PlaceExpr → (slot : ℕ) → PlaceExpr
at p s = record p { steps = p.steps ++ along.Index s ∷ [] }

abbrev pub copy : PlaceExpr → Expr
copy p = roll-Expr (Expr-F.Copy p)

abbrev pub move : PlaceExpr → Expr
move p = roll-Expr (Expr-F.Move p)

abbrev pub borrow : PlaceExpr → Expr
borrow p = roll-Expr (Expr-F.Ref p false)

abbrev pub seq : List Expr → Expr
seq es = roll-Expr (Expr-F.Seq es)

abbrev pub scope : List ℕ → List Expr → Expr
scope ss es = roll-Expr (Expr-F.Scope ss (seq es))

abbrev pub init : ℕ → Expr → Expr
init s e = roll-Expr (Expr-F.Init s e)

abbrev pub assign : PlaceExpr → Expr → Expr
assign p e = roll-Expr (Expr-F.Assign p e)

abbrev pub binary : BinaryOp → Expr → Expr → Expr
binary op a b = roll-Expr (Expr-F.Binary op a b)

abbrev pub equal : Expr → Expr → Expr
equal a b = roll-Expr (Expr-F.Compare compare.Equal a b)

abbrev pub build : ℕ → List Expr → Expr
build d es = roll-Expr (Expr-F.Build d 0 es)

abbrev pub call : ℕ → List Expr → Expr
call f es = roll-Expr (Expr-F.Call f es)

abbrev pub choose : Expr → Expr → Expr → Expr
choose c a b = roll-Expr (Expr-F.If c a b)

abbrev pub loop : Expr → Expr
loop e = roll-Expr (Expr-F.Loop e)

-- println! of a text, of `{}`, and of a text and `{}`
abbrev pub say : List ℕ → Expr
say t = roll-Expr (Expr-F.Print (piece.Text t ∷ []) [])

abbrev pub show : Expr → Expr
show e = roll-Expr (Expr-F.Print (piece.Argument ∷ []) (e ∷ []))

abbrev pub say_and_show : List ℕ → Expr → Expr
say_and_show t e = roll-Expr (Expr-F.Print (piece.Text t ∷ piece.Argument ∷ []) (e ∷ []))

abbrev pub fail : List ℕ → Expr
fail t = roll-Expr (Expr-F.Panic (piece.Text t ∷ []) [])

-- D(n)
abbrev pub d : ℕ → Expr
d n = build 0 (num n ∷ [])

-- P { a: D(n), b: D(m) }
abbrev pub p : ℕ → ℕ → Expr
p n m = build 1 (d n ∷ d m ∷ [])

-- ---- definitions

abbrev pub def : List ℕ → List Ty → Option ℕ → TypeDef
def name ts drop = record { path = name ∷ []; variants = record { fields = ts } ∷ []; copy = false; drop = drop }

abbrev pub function : List Ty → Ty → List Ty → Expr → List ClosureEntry → Function
function ps t ss e cs = record { item = record { file = 0; offset = 0 }; parameters = ps; result = t; slots = ss; body = e; closures = cs }

-- fn drop(&mut self) { println!("drop {}", self.0); }
abbrev pub drop_function : Function
drop_function = function (unique ty_d ∷ []) Unit (unique ty_d ∷ []) (say_and_show (codes "drop ") (copy (dot (deref (slot 0)) 0 0))) []

-- fn eat(d: D) {}
abbrev pub eat_function : Function
eat_function = function (ty_d ∷ []) Unit (ty_d ∷ []) unit []

-- fn main() with these slots and closures
abbrev pub main : List Ty → Expr → List ClosureEntry → Function
main ss e cs = function [] Unit ss e cs

-- a program: D is type 0, P is type 1; D's drop is function 0, eat is function 1, and function 2 is main
abbrev pub program_with : List TypeDef → Methods → List Function → Core
program_with ts ms fs = record {
  types = def (codes "D") (int ∷ []) (Some 0) ∷ def (codes "P") (ty_d ∷ ty_d ∷ []) None ∷ ts;
  functions = drop_function ∷ eat_function ∷ fs;
  methods = ms;
  entry = Some 2;
}

abbrev pub program : List Function → Core
program fs = program_with [] (record { methods = []; impls = [] }) fs

-- ---- closures

abbrev pub capture : List FieldStep → By → Bool → Capture
capture q by copy = record { path = q; by = by; copy = copy }

abbrev pub variable : ℕ → Ty → List Capture → Variable
variable s t cs = record { base = base.Slot s; ty = t; captures = cs }

abbrev pub closure_ty : ℕ → Ty
closure_ty id = Closure id false false false

abbrev pub closure : ℕ → ClosureKind → List Ty → List Variable → Expr → ClosureEntry
closure id kind ps xs e = record { id = id; ty = closure_ty id; parameters = ps; result = Unit; slots = ps; variables = xs; kind = kind; body = e }

-- ---- what is seen of a whole run

abbrev pub seen : List Event → Seen
seen es = record { events = es; ended = true; invalid = false; stuck = false }

abbrev pub invalid_after : List Event → Seen
invalid_after es = record { events = es; ended = true; invalid = true; stuck = false }

abbrev pub prints : List ℕ → List Event
prints t = Printed t ∷ []

-- a value of D drops
abbrev pub drops : List ℕ → List Event
drops n = Dropped 0 ∷ Printed (codes "drop " ++ n) ∷ []
