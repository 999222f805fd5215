-- Typed: a Core's numbers name what it has, and each expression gives and takes values of the types that its place asks. It speaks of the Core alone and of no run.
use Rattle.std.specs.Prelude.{◌≡◌, ◌≢◌, ◌⊎◌, ◌↔◌, ℕ, ◌<◌, ◌≤◌, Bool, true, false, List, [], ◌∷◌, ◌++◌, length, map, Option, Some, None, not, is_none, slice_index_or, IsTrue, IsSomeAnd, All, AllPairs, Any, slice_get, find, option_and_then, ◌==◌, ⊤}
use Rattle.em_core.specs.declared.ty.Ty.{Ty, out-Ty}
use Rattle.em_core.specs.declared.ty.Ty as ty
use Rattle.em_core.specs.declared.ty.Ty.TheOpen.{Ty-F}
use Rattle.em_core.specs.declared.definition.TypeDef.{TypeDef}
use Rattle.em_core.specs.declared.definition.Variant.{Variant}
use Rattle.em_core.specs.declared.expr.Arm.{Arm}
use Rattle.em_core.specs.declared.expr.Expr.{Expr, out-Expr}
use Rattle.em_core.specs.declared.expr.Expr.TheOpen.{Expr-F}
use Rattle.em_core.specs.declared.function.Capture.{Capture}
use Rattle.em_core.specs.declared.function.Variable.{Variable}
use Rattle.em_core.specs.declared.function.Function.{Function}
use Rattle.em_core.specs.declared.function.ClosureEntry.{ClosureEntry}
use Rattle.em_core.specs.declared.mention.By.TheVariants as by
use Rattle.em_core.specs.declared.methods.Impl.{Impl}
use Rattle.em_core.specs.declared.methods.ImplFunction.{ImplFunction}
use Rattle.em_core.specs.declared.methods.Method.{Method}
use Rattle.em_core.specs.declared.methods.Owner.{Owner}
use Rattle.em_core.specs.declared.methods.Owner.TheVariants as owner
use Rattle.em_core.specs.declared.methods.Receiver.{Receiver}
use Rattle.em_core.specs.declared.methods.Receiver.TheVariants as receiver
use Rattle.em_core.specs.declared.methods.Signature.{Signature}
use Rattle.em_core.specs.declared.program.Core.{Core}
use Rattle.em_core.specs.Facts.{closures_of}
use Rattle.em_core.specs.Fitting.{Fits}
use Rattle.em_core.specs.Naming.{CaptureFits, PartsApart, receiver_takes}
use Rattle.em_core.specs.Nodes.{children}
use Rattle.em_core.specs.Rules.{Gives}
use Rattle.em_core.specs.Types.{IsCopy, IsDropFree, HoldsReference, TypeOk, ValueTypeOk}

-- ---- the slots that are a Scope's or a DropValue's own

abbrev pub own_slots : Expr-F Expr Arm → List ℕ
own_slots (Expr-F.Scope ss e) = ss
own_slots (Expr-F.DropValue s e) = s ∷ []
own_slots _ = []

-- those of the whole expression
mutual
  pub data Lists : Expr → List ℕ → Type 0 where
    lists : {e : Expr} {ss : List ℕ} → ListsAll (children (out-Expr e)) ss → Lists e (own_slots (out-Expr e) ++ ss)

  pub data ListsAll : List Expr → List ℕ → Type 0 where
    none : ListsAll [] []
    more : {e : Expr} {es : List Expr} {ss rs : List ℕ} → Lists e ss → ListsAll es rs → ListsAll (e ∷ es) (ss ++ rs)

unfoldable pub AllDifferent : List ℕ → Type 0
AllDifferent ns = AllPairs (λ a b. a ≢ b) ns

-- no slot is listed twice, and no parameter's is
pub record SlotsApart (parameters : ℕ) (body : Expr) : Type 0 where
  pub listed : List ℕ
  pub lists : Lists body listed
  pub apart : AllDifferent listed
  pub above : All (λ s. parameters ≤ s) listed

-- parameters are the first slots
unfoldable pub AreFirst : (parameters slots : List Ty) → Type 0
AreFirst ps ss = (length ps ≤ length ss) × ((k : ℕ) (d : Ty) → k < length ps → slice_index_or ps k d ≡ slice_index_or ss k d)

-- ---- methods

-- a reference to the type, as the receiver's form asks
unfoldable pub TakesSelf : Receiver → Ty-F Ty → Ty → Type 0
TakesSelf how (Ty-F.Ref u unique) t = IsTrue (receiver_takes how unique) × (u ≡ t)
TakesSelf how _ t = ⊥

unfoldable pub TakesRest : Receiver → List Ty → Ty → List Ty → Type 0
TakesRest how [] t ps = ⊥
TakesRest how (p ∷ qs) t ps = TakesSelf how (out-Ty p) t × (qs ≡ ps)

-- a function for a method that an object has: it takes a reference to the type, and then what the method says
unfoldable pub Answers : Ty → Receiver → Signature → Function → Type 0
Answers t how s g = TakesRest how g.parameters t s.parameters × (g.result ≡ s.result)

abbrev pub is_trait : ℕ → Owner → Bool
is_trait n (owner.Trait m) = n == m
is_trait n _ = false

abbrev pub is_some_trait : Owner → Bool
is_some_trait (owner.Trait m) = true
is_some_trait _ = false

abbrev pub is_by_reference : Receiver → Bool
is_by_reference receiver.Shared = true
is_by_reference receiver.Unique = true
is_by_reference _ = false

-- types that an impl of a trait may be for
abbrev pub is_impl_type : Ty-F Ty → Bool
is_impl_type (Ty-F.Def d) = true
is_impl_type (Ty-F.Int k) = true
is_impl_type Ty-F.Bool = true
is_impl_type Ty-F.Char = true
is_impl_type Ty-F.Unit = true
is_impl_type _ = false

unfoldable pub SameImpl : Impl → Impl → Type 0
SameImpl i j = (i.of ≡ j.of) × (i.ty ≡ j.ty)

-- one impl per trait and type
unfoldable pub OneImpl : List Impl → Type 0
OneImpl impls = AllPairs (λ i j. SameImpl i j → ⊥) impls

-- ---- the Drop of a type

abbrev pub is_unique_def : ℕ → Ty-F Ty → Bool
is_unique_def d (Ty-F.Def e) = d == e
is_unique_def d _ = false

abbrev pub is_drop_parameter : ℕ → Ty-F Ty → Bool
is_drop_parameter d (Ty-F.Ref t true) = is_unique_def d (out-Ty t)
is_drop_parameter d _ = false

abbrev pub is_unit : Ty-F Ty → Bool
is_unit Ty-F.Unit = true
is_unit _ = false

abbrev pub takes_one : (Ty-F Ty → Bool) → List Ty → Bool
takes_one p (t ∷ []) = p (out-Ty t)
takes_one p _ = false

-- a function of one parameter that is a unique reference to the type
unfoldable pub IsDropFor : ℕ → Function → Type 0
IsDropFor d f = IsTrue (takes_one (is_drop_parameter d) f.parameters) × IsTrue (is_unit (out-Ty f.result))

unfoldable pub IsEntry : Function → Type 0
IsEntry g = (g.parameters ≡ []) × IsTrue (is_unit (out-Ty g.result))

module _ (core : Core) where
  -- ---- closures as types: judged by what they capture as whole variables

  unfoldable pub CopyCapture : Ty → Capture → Type 0
  CopyCapture t c = (c.by ≡ by.Shared) ⊎ ((c.by ≡ by.Value) × IsCopy core t)

  unfoldable pub DropFreeCapture : Ty → Capture → Type 0
  DropFreeCapture t c = (c.by ≢ by.Value) ⊎ IsDropFree core t

  unfoldable pub RefersCapture : Ty → Capture → Type 0
  RefersCapture t c = (c.by ≢ by.Value) ⊎ HoldsReference core t

  unfoldable pub CopyVariable : Variable → Type 0
  CopyVariable x = All (λ c. CopyCapture x.ty c) x.captures

  unfoldable pub DropFreeVariable : Variable → Type 0
  DropFreeVariable x = All (λ c. DropFreeCapture x.ty c) x.captures

  unfoldable pub RefersVariable : Variable → Type 0
  RefersVariable x = Any (λ c. RefersCapture x.ty c) x.captures

  -- the type says rightly whether the closure is Copy, is drop-free and holds a reference
  unfoldable pub SaysCopy : List Variable → Bool → Type 0
  SaysCopy xs copy = (copy ≡ true) ↔ All (λ x. CopyVariable x) xs

  unfoldable pub SaysDropFree : List Variable → Bool → Type 0
  SaysDropFree xs drop_free = (drop_free ≡ true) ↔ All (λ x. DropFreeVariable x) xs

  unfoldable pub SaysRefers : List Variable → Bool → Type 0
  SaysRefers xs refers = (refers ≡ true) ↔ Any (λ x. RefersVariable x) xs

  unfoldable pub ClosureTypeFits : ClosureEntry → Ty-F Ty → Type 0
  ClosureTypeFits e (Ty-F.Closure id copy drop_free refers) = (id ≡ e.id) × SaysCopy e.variables copy × SaysDropFree e.variables drop_free × SaysRefers e.variables refers
  ClosureTypeFits e _ = ⊥

  -- ---- bodies

  -- the body gives the result
  pub record Returns (slots : List Ty) (roots : List Variable) (result : Ty) (body : Expr) : Type 0 where
    pub ty : Ty
    pub ends : Bool
    pub gives : Gives core slots roots result false body ty ends
    pub fits : Fits ty result

  -- parameters are the first slots, and the body gives the result
  unfoldable pub BodyOk : (parameters slots : List Ty) (roots : List Variable) (result : Ty) (body : Expr) → Type 0
  BodyOk parameters slots roots result body = ValueTypeOk core result × All (λ t. ValueTypeOk core t) slots × AreFirst parameters slots × Returns slots roots result body

  pub record VariableOk (x : Variable) : Type 0 where
    pub ty : ValueTypeOk core x.ty
    pub captures : All (λ c. CaptureFits core x.ty c) x.captures
    pub apart : PartsApart x.captures

  pub record ClosureOk (e : ClosureEntry) : Type 0 where
    pub ty : ClosureTypeFits e (out-Ty e.ty)
    pub variables : All (λ x. VariableOk x) e.variables
    pub body : BodyOk e.parameters e.slots e.variables e.result e.body
    pub apart : SlotsApart (length e.parameters) e.body

  pub record FunctionOk (g : Function) : Type 0 where
    pub body : BodyOk g.parameters g.slots [] g.result g.body
    pub apart : SlotsApart (length g.parameters) g.body
    pub closures : All (λ e. ClosureOk e) g.closures

  -- ---- definitions

  unfoldable pub FieldsOk : Variant → Type 0
  FieldsOk v = All (λ t. ValueTypeOk core t) v.fields

  unfoldable pub FieldsCopy : Variant → Type 0
  FieldsCopy v = All (λ t. IsCopy core t) v.fields

  unfoldable pub DropOk : ℕ → Option ℕ → Type 0
  DropOk d None = ⊤
  DropOk d (Some f) = IsSomeAnd (slice_get core.functions f) (λ g. IsDropFor d g)

  -- a type that derives Copy has Copy fields and no Drop impl
  unfoldable pub CopyOk : Bool → TypeDef → Type 0
  CopyOk true x = IsTrue (is_none x.drop) × All (λ v. FieldsCopy v) x.variants
  CopyOk false x = ⊤

  unfoldable pub DefOk : ℕ → TypeDef → Type 0
  DefOk d x = All (λ v. FieldsOk v) x.variants × DropOk d x.drop × CopyOk x.copy x

  -- ---- methods and impls

  unfoldable pub OwnerOk : Owner → Type 0
  OwnerOk (owner.Type t) = TypeOk core t
  OwnerOk (owner.Trait n) = ⊤

  -- a method that an object has is a trait's, takes a reference to the object, and tells its types
  unfoldable pub ObjectMethodOk : Method → Option Signature → Type 0
  ObjectMethodOk x None = ⊤
  ObjectMethodOk x (Some s) = IsTrue (is_some_trait x.owner) × IsTrue (is_by_reference x.receiver) × All (λ t. ValueTypeOk core t) s.parameters × ValueTypeOk core s.result

  unfoldable pub MethodFunctionOk : Option ℕ → Type 0
  MethodFunctionOk None = ⊤
  MethodFunctionOk (Some f) = f < length core.functions

  unfoldable pub MethodOk : Method → Type 0
  MethodOk x = OwnerOk x.owner × MethodFunctionOk x.function × ObjectMethodOk x x.on_object

  -- in an impl, or by a default body, which takes a reference to an object of the trait
  unfoldable pub ProvidedBy : Option ImplFunction → Impl → Method → Signature → Type 0
  ProvidedBy (Some f) i x s = IsSomeAnd (slice_get core.functions f.function) (λ g. Answers i.ty x.receiver s g)
  ProvidedBy None i x s = IsSomeAnd (option_and_then (λ f. slice_get core.functions f) x.function) (λ g. Answers (ty.Dyn i.of) x.receiver s g)

  -- where an object of the impl's trait has the method, the impl provides it
  unfoldable pub ProvidesSignature : Option Signature → Impl → (m : ℕ) → Method → Type 0
  ProvidesSignature None i m x = ⊤
  ProvidesSignature (Some s) i m x = ProvidedBy (find (λ f. f.method == m) i.functions) i x s

  unfoldable pub Provides : Impl → (m : ℕ) → Method → Type 0
  Provides i m x = IsTrue (not (is_trait i.of x.owner)) ⊎ ProvidesSignature x.on_object i m x

  -- the functions of an impl are for methods of its trait
  unfoldable pub ImplFunctionOk : Impl → ImplFunction → Type 0
  ImplFunctionOk i f = (f.function < length core.functions) × IsSomeAnd (slice_get core.methods.methods f.method) (λ x. IsTrue (is_trait i.of x.owner))

  unfoldable pub ProvidesAll : Impl → Type 0
  ProvidesAll i = (m : ℕ) (x : Method) → slice_get core.methods.methods m ≡ Some x → Provides i m x

  unfoldable pub ImplOk : Impl → Type 0
  ImplOk i = IsTrue (is_impl_type (out-Ty i.ty)) × TypeOk core i.ty × All (λ f. ImplFunctionOk i f) i.functions × AllDifferent (map (λ f. f.method) i.functions) × ProvidesAll i

  -- ---- the whole

  unfoldable pub EntryOk : Option ℕ → Type 0
  EntryOk None = ⊤
  EntryOk (Some f) = IsSomeAnd (slice_get core.functions f) (λ g. IsEntry g)

  pub record Typed : Type 0 where
    pub types : (d : ℕ) (x : TypeDef) → slice_get core.types d ≡ Some x → DefOk d x
    pub functions : All (λ g. FunctionOk g) core.functions
    -- no two closures have one number
    pub closures : AllDifferent (map (λ e. e.id) (closures_of core))
    pub methods : All (λ x. MethodOk x) core.methods.methods
    pub impls : All (λ i. ImplOk i) core.methods.impls
    pub one_impl : OneImpl core.methods.impls
    pub entry : EntryOk core.entry
