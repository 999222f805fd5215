-- What the numbers in a Core name: types, fields, slots, bodies and captured variables.
use Rattle.std.specs.Prelude.{ℕ, Bool, true, false, if◌then◌else◌, ◌==◌, List, [], Option, Some, None, slice_get}
use Rattle.std.specs.Prelude.{flat_map, find, option_map, option_and_then}
use Rattle.em_core.specs.declared.ty.Ty.{Ty, out-Ty, Never}
use Rattle.em_core.specs.declared.ty.Ty.TheOpen.{Ty-F}
use Rattle.em_core.specs.declared.expr.Expr.{Expr}
use Rattle.em_core.specs.declared.function.ClosureEntry.{ClosureEntry}
use Rattle.em_core.specs.declared.function.Variable.{Variable}
use Rattle.em_core.specs.declared.program.Core.{Core}
use Rattle.em_core.specs.Values.{Code, Fn, Cl, Step, Fld, Elem, Inside, Rt}

abbrev pub or_never : Option Ty → Ty
or_never (Some t) = t
or_never None = Never

-- the type of a list at a place; a number that names none has the type that has no value
abbrev pub type_at : List Ty → ℕ → Ty
type_at ts n = or_never (slice_get ts n)

abbrev pub or_none : {A : Type 0} → Option (Option A) → Option A
or_none (Some o) = o
or_none None = None

-- the types of a variant's fields
abbrev pub fields_of : Core → (def variant : ℕ) → List Ty
fields_of c d k = elim (option_and_then (λ t. slice_get t.variants k) (slice_get c.types d)) [ None ↦ [] | Some v ↦ v.fields ]

abbrev pub field_type : Core → (def variant field : ℕ) → Ty
field_type c d k i = type_at (fields_of c d k) i

-- the number of a type's Drop function
abbrev pub drop_of : Core → ℕ → Option ℕ
drop_of c d = option_and_then (λ t. t.drop) (slice_get c.types d)

-- all closures, and the one of a number
abbrev pub closures_of : Core → List ClosureEntry
closures_of c = flat_map (λ f. f.closures) c.functions

abbrev pub closure_of : Core → ℕ → Option ClosureEntry
closure_of c id = find (λ e. e.id == id) (closures_of c)

abbrev pub closure_type : Core → ℕ → Ty
closure_type c id = elim (closure_of c id) [ None ↦ Never | Some e ↦ e.ty ]

abbrev pub variables_of : Core → ℕ → List Variable
variables_of c id = elim (closure_of c id) [ None ↦ [] | Some e ↦ e.variables ]

abbrev pub variable_type : Core → (id variable : ℕ) → Ty
variable_type c id k = elim (slice_get (variables_of c id) k) [ None ↦ Never | Some v ↦ v.ty ]

-- the types of all slots of a function or closure, its body, and how many parameters it has
abbrev pub slots_of : Core → Code → List Ty
slots_of c (Fn f) = elim (slice_get c.functions f) [ None ↦ [] | Some g ↦ g.slots ]
slots_of c (Cl id) = elim (closure_of c id) [ None ↦ [] | Some e ↦ e.slots ]

abbrev pub body_of : Core → Code → Option Expr
body_of c (Fn f) = option_map (λ g. g.body) (slice_get c.functions f)
body_of c (Cl id) = option_map (λ e. e.body) (closure_of c id)

-- parts of a type
abbrev pub def_in : Ty-F Ty → Option ℕ
def_in (Ty-F.Def d) = Some d
def_in _ = None

abbrev pub closure_in : Ty-F Ty → Option ℕ
closure_in (Ty-F.Closure id copy drop_free refers) = Some id
closure_in _ = None

abbrev pub element_in : Ty-F Ty → Option Ty
element_in (Ty-F.Array t n) = Some t
element_in _ = None

abbrev pub item_in : Ty-F Ty → Option Ty
item_in (Ty-F.ArrayIter t) = Some t
item_in _ = None

abbrev pub content_in : Ty-F Ty → Option Ty
content_in (Ty-F.Boxed t) = Some t
content_in _ = None

abbrev pub is_object : Ty-F Ty → Bool
is_object (Ty-F.Dyn n) = true
is_object (Ty-F.DynFn k ts t) = true
is_object _ = false

-- what a box of this content type holds: of a trait object, what was put into it
abbrev pub content_type : (declared made : Ty) → Ty
content_type t u = if is_object (out-Ty t) then u else t

-- the type one step down, where the step fits
abbrev pub type_below : Core → Ty → Step → Ty
type_below c t (Fld d k i) = field_type c d k i
type_below c t (Elem i) = elim (element_in (out-Ty t)) [ Some e ↦ e | None ↦ or_never (item_in (out-Ty t)) ]
type_below c t (Inside g) = or_never (content_in (out-Ty t))
type_below c t (Rt id k) = variable_type c id k
