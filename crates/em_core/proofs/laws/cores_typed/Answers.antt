use Rattle.std.proofs.Common.{refl, ◌≡◌, ◌⊎◌, ◌++◌, ◌∙◌, ◌<◌, ◌≤◌, ℕ, zero, suc, Bool, true, false, List, [], ◌∷◌, Some, None, inl, inr, ap, sym, subst, arith, codes}
use Rattle.std.specs.Prelude.{IsTrue, All, Any, Contains, slice_get}
use Rattle.em_base.specs.declared.int_kind.IntKind.TheVariants.{I32}
use Rattle.em_core.specs.declared.definition.TypeDef.{TypeDef}
use Rattle.em_core.specs.declared.definition.Variant.{Variant}
use Rattle.em_core.specs.declared.ty.Ty.{Ty, Unit, Def, Dyn, out-Ty, roll-Ty}
use Rattle.em_core.specs.declared.ty.Ty.TheOpen.{Ty-F}
use Rattle.em_core.specs.declared.ty.ClosureKind.TheVariants.{Fn, FnOnce}
use Rattle.em_core.specs.declared.expr.Expr.{Expr, out-Expr, roll-Expr}
use Rattle.em_core.specs.declared.expr.Expr.TheOpen.{Expr-F}
use Rattle.em_core.specs.declared.function.ClosureEntry.{ClosureEntry}
use Rattle.em_core.specs.declared.function.Variable.{Variable}
use Rattle.em_core.specs.declared.mention.By.TheVariants.{Shared, Value}
use Rattle.em_core.specs.declared.methods.Impl.{Impl}
use Rattle.em_core.specs.declared.methods.Method.{Method}
use Rattle.em_core.specs.declared.methods.Owner.TheVariants as owner
use Rattle.em_core.specs.declared.methods.Receiver.TheVariants as receiver
use Rattle.em_core.specs.declared.program.Core.{Core}
use Rattle.em_core.specs.Fitting
use Rattle.em_core.specs.Fitting.{AllFit, EachFits, is_sized, is_shown}
use Rattle.em_core.specs.Naming
use Rattle.em_core.specs.Nodes.{children, type_children}
use Rattle.em_core.specs.Rules
use Rattle.em_core.specs.Rules.{Gives, GivesAll}
use Rattle.em_core.specs.Types
use Rattle.em_core.specs.Types.{IsCopy, IsPart, Drops, Refers, FormOk, TypesOk, ValueTypeOk}
use Rattle.em_core.specs.Typed
use Rattle.em_core.specs.Typed.{AllDifferent, AreFirst, Lists, ListsAll, own_slots, DefOk, FunctionOk, ClosureOk, VariableOk, SaysCopy, SaysDropFree, SaysRefers, MethodOk, ImplOk, Provides}
use Rattle.em_core.specs.Examples.Short.{int, ty_d, slot, dot, deref, copy, move, borrow, seq, scope, init, num, d, say, say_and_show, def, function, eat_function, main, closure_ty, closure, variable, capture}
use Rattle.em_core.specs.Examples.Closures.{boxed_once, make, call_once}
use Rattle.em_core.specs.Examples.Values.{trait_object}
use Rattle.em_core.specs.Examples.Types.{slot_out_of_range}
use Rattle.em_core.proofs.CopyLemmas.{copy_int, copy_def}
use Rattle.em_core.proofs.laws.cores_typed.Goals as goal

-- ---- lists of one and two

all_none : {A : Type 0} (P : A → Type 0) → All P []
all_none P k e lt = absurd (grind arith)

all_cons : {A : Type 0} (P : A → Type 0) (x : A) (xs : List A) → P x → All P xs → All P (x ∷ xs)
all_cons P x xs h hs zero e lt = h
all_cons P x xs h hs (suc k) e lt = hs k e (grind arith)

all_one : {A : Type 0} (P : A → Type 0) (x : A) → P x → All P (x ∷ [])
all_one P x h = all_cons P x [] h (all_none P)

all_two : {A : Type 0} (P : A → Type 0) (x y : A) → P x → P y → All P (x ∷ y ∷ [])
all_two P x y h k = all_cons P x (y ∷ []) h (all_one P y k)

all_three : {A : Type 0} (P : A → Type 0) (x y z : A) → P x → P y → P z → All P (x ∷ y ∷ z ∷ [])
all_three P x y z h k l = all_cons P x (y ∷ z ∷ []) h (all_two P y z k l)

all_four : {A : Type 0} (P : A → Type 0) (x y z w : A) → P x → P y → P z → P w → All P (x ∷ y ∷ z ∷ w ∷ [])
all_four P x y z w h k l m = all_cons P x (y ∷ z ∷ w ∷ []) h (all_three P y z w k l m)

any_only : {A : Type 0} (P : A → Type 0) (x : A) → Any P (x ∷ []) → P x
any_only P x (zero, y, lt, q, h) = subst P (sym q) h
any_only P x (suc k, y, lt, q, h) = absurd (grind arith)

contains_only : {A : Type 0} (x y : A) → Contains (x ∷ []) y → x ≡ y
contains_only x y (zero, lt, q) = q
contains_only x y (suc k, lt, q) = absurd (grind arith)

same_all : (ts : List Ty) → AllFit ts ts
unfolding AllFit Fitting.Fits
same_all ts = (refl, λ k e lt. inl refl)

each_one : (t : Ty) → EachFits (t ∷ []) t
unfolding EachFits Fitting.Fits
each_one t = all_one (λ u. Fitting.Fits u t) _ (inl refl)

first_same : (ts : List Ty) → AreFirst ts ts
unfolding AreFirst
first_same ts = (grind arith, λ k e lt. refl)

first_none : (ts : List Ty) → AreFirst [] ts
unfolding AreFirst
first_none ts = (grind arith, λ k e lt. absurd (grind arith))

none_apart : AllDifferent []
unfolding AllDifferent
none_apart i j e lt le = absurd (grind arith)

one_apart : (n : ℕ) → AllDifferent (n ∷ [])
unfolding AllDifferent
one_apart n i j e lt le = absurd (grind arith)

two_apart : (n m : ℕ) → (n ≡ m → ⊥) → AllDifferent (n ∷ m ∷ [])
unfolding AllDifferent
two_apart n m h zero zero e lt le = absurd (grind arith)
two_apart n m h zero (suc zero) e lt le = h
two_apart n m h (suc i) j e lt le = absurd (grind arith)
two_apart n m h zero (suc (suc j)) e lt le = absurd (grind arith)

pub returns-clause-trait_object : goal.returns-clause-trait_object
unfolding Rattle.em_core.specs.declared.expr.Expr.TheBlock.hidden-the_row-Expr-0 Rattle.em_core.specs.declared.expr.Expr.TheBlock.shown-the_row-Expr-0
    Rattle.em_core.specs.declared.expr.Expr.TheBlock.hidden-the_row-Expr-1 Rattle.em_core.specs.declared.expr.Expr.TheBlock.shown-the_row-Expr-1
    Rattle.em_core.specs.declared.expr.Expr.TheBlock.hidden-the_row-Arm-2 Rattle.em_core.specs.declared.expr.Expr.TheBlock.shown-the_row-Arm-2
    Rattle.em_core.specs.declared.ty.Ty.TheBlock.hidden-the_row-Ty-0 Rattle.em_core.specs.declared.ty.Ty.TheBlock.shown-the_row-Ty-0
    Rattle.em_core.specs.declared.ty.Ty.TheBlock.hidden-the_row-Ty-1 Rattle.em_core.specs.declared.ty.Ty.TheBlock.shown-the_row-Ty-1
    Rattle.em_core.specs.declared.expr.Expr.TheViews.out-Expr Rattle.em_core.specs.declared.expr.Expr.TheViews.roll-Expr
    Rattle.em_core.specs.declared.ty.Ty.TheViews.out-Ty Rattle.em_core.specs.declared.ty.Ty.TheViews.roll-Ty
    denote.Hole.Carrier.out denote.Hole.Carrier.roll denote.Hole.Carrier.shown denote.Hole.Carrier.hidden
    Rules.Asks Rules.FormatFits Fitting.Fits Fitting.EachFits Fitting.AllFit
    Naming.VariableStands Naming.Unsizes Naming.BecomesObject Naming.IsClosureOf Naming.Implements Naming.IsImplOf Naming.MayCall Naming.ObjectFits Naming.CaptureFits Naming.PartsApart
    Types.FormOk Types.ValueTypeOk Types.Drops Types.Refers Types.IsDropFree Types.HoldsReference
    Typed.AllDifferent Typed.AreFirst Typed.BodyOk Typed.IsDropFor Typed.IsEntry Typed.EntryOk Typed.FieldsOk Typed.DropOk Typed.CopyOk Typed.DefOk
    Typed.CopyCapture Typed.DropFreeCapture Typed.RefersCapture Typed.CopyVariable Typed.DropFreeVariable Typed.RefersVariable Typed.SaysCopy Typed.SaysDropFree Typed.SaysRefers Typed.ClosureTypeFits
    Typed.OwnerOk Typed.MethodFunctionOk Typed.ObjectMethodOk Typed.MethodOk Typed.TakesSelf Typed.TakesRest Typed.Answers Typed.ProvidedBy Typed.ProvidesSignature Typed.Provides Typed.ProvidesAll Typed.ImplFunctionOk Typed.ImplOk Typed.SameImpl Typed.OneImpl
returns-clause-trait_object c = record {
  types = defs;
  functions = all_four (λ g. FunctionOk trait_object g) _ _ _ _ (taker (codes "drop ") true) eat_ok main_ok (taker (codes "show ") false);
  closures = none_apart;
  methods = all_one (λ x. MethodOk trait_object x) _ method_ok;
  impls = all_one (λ i. ImplOk trait_object i) _ impl_ok;
  one_impl = λ i j e lt le. absurd (grind arith);
  entry = (refl, refl);
}
  where
    core : Core
    core = trait_object

    slots : List Ty
    slots = roll-Ty (Ty-F.Boxed (Dyn 0)) ∷ []

    vt : (t : Ty) → is_sized (out-Ty t) ≡ true → FormOk core (out-Ty t) → TypesOk core (type_children (out-Ty t)) → ValueTypeOk core t
    vt t s f h = (s, Types.TypeOk.type f h)

    ok_int : ValueTypeOk core int
    ok_int = vt int refl tt Types.TypesOk.none

    ok_unit : ValueTypeOk core Unit
    ok_unit = vt Unit refl tt Types.TypesOk.none

    ok_d : ValueTypeOk core ty_d
    ok_d = vt ty_d refl (grind arith) Types.TypesOk.none

    ok_ref : (unique : Bool) → ValueTypeOk core (roll-Ty (Ty-F.Ref ty_d unique))
    ok_ref unique = vt (roll-Ty (Ty-F.Ref ty_d unique)) refl tt (Types.TypesOk.more ok_d.1 Types.TypesOk.none)

    def_d : DefOk core 0 (def (codes "D") (int ∷ []) (Some 0))
    def_d = (all_one (λ v. Typed.FieldsOk core v) _ (all_one (λ t. ValueTypeOk core t) _ ok_int), (refl, refl), tt)

    def_p : DefOk core 1 (def (codes "P") (ty_d ∷ ty_d ∷ []) None)
    def_p = (all_one (λ v. Typed.FieldsOk core v) _ (all_two (λ t. ValueTypeOk core t) _ _ ok_d ok_d), tt, tt)

    defs : (n : ℕ) (x : TypeDef) → slice_get core.types n ≡ Some x → DefOk core n x
    defs zero x q = let e : def (codes "D") (int ∷ []) (Some 0) ≡ x = cc in subst (λ z. DefOk core 0 z) e def_d
    defs (suc zero) x q = let e : def (codes "P") (ty_d ∷ ty_d ∷ []) None ≡ x = cc in subst (λ z. DefOk core 1 z) e def_p
    defs (suc (suc n)) x q = absurd cc

    -- println!("TEXT {}", self.0)
    told : (t : List ℕ) (unique : Bool) → Gives core (roll-Ty (Ty-F.Ref ty_d unique) ∷ []) [] Unit false (say_and_show t (copy (dot (deref (slot 0)) 0 0))) Unit false
    told t unique = Rules.Gives.gives {ts = int ∷ []} {ends = false} (Rules.GivesAll.more (Rules.Gives.gives {ts = []} {ends = false} Rules.GivesAll.none refl (copy_int core I32)) Rules.GivesAll.none) refl (refl, all_one (λ t. IsTrue (is_shown (out-Ty t))) _ refl)

    none_told : (t : List ℕ) → Lists (say_and_show t (copy (dot (deref (slot 0)) 0 0))) []
    none_told t = Typed.Lists.lists {ss = []} (Typed.ListsAll.more {ss = []} {rs = []} (Typed.Lists.lists {ss = []} Typed.ListsAll.none) Typed.ListsAll.none)

    taker : (t : List ℕ) (unique : Bool) → FunctionOk core (function (roll-Ty (Ty-F.Ref ty_d unique) ∷ []) Unit (roll-Ty (Ty-F.Ref ty_d unique) ∷ []) (say_and_show t (copy (dot (deref (slot 0)) 0 0))) [])
    taker t unique = record {
      body = (ok_unit, all_one (λ t. ValueTypeOk core t) _ (ok_ref unique), first_same (roll-Ty (Ty-F.Ref ty_d unique) ∷ []), record { ty = Unit; ends = false; gives = told t unique; fits = inl refl });
      apart = record { listed = []; lists = none_told t; apart = none_apart; above = all_none (λ s. 1 ≤ s) };
      closures = all_none (λ e. ClosureOk core e);
    }

    eat_ok : FunctionOk core eat_function
    eat_ok = record {
      body = (ok_unit, all_one (λ t. ValueTypeOk core t) _ ok_d, first_same (ty_d ∷ []), record { ty = Unit; ends = false; gives = Rules.Gives.gives {ts = []} {ends = false} Rules.GivesAll.none refl refl; fits = inl refl });
      apart = record { listed = []; lists = Typed.Lists.lists {ss = []} Typed.ListsAll.none; apart = none_apart; above = all_none (λ s. 1 ≤ s) };
      closures = all_none (λ e. ClosureOk core e);
    }

    -- in main
    In : Expr → Ty → Type 0
    In e t = Gives core slots [] Unit false e t false

    one_d : In (d 1) ty_d
    one_d = Rules.Gives.gives {ts = int ∷ []} {ends = false} (Rules.GivesAll.more (Rules.Gives.gives {ts = []} {ends = false} Rules.GivesAll.none refl refl) Rules.GivesAll.none) refl (same_all (int ∷ []))

    said : (roots : List Variable) (ss : List Ty) (t : List ℕ) → Gives core ss roots Unit false (say t) Unit false
    said roots ss t = Rules.Gives.gives {ts = []} {ends = false} Rules.GivesAll.none refl (refl, all_none (λ t. IsTrue (is_shown (out-Ty t))))

    quiet : (e : Expr) → own_slots (out-Expr e) ≡ [] → children (out-Expr e) ≡ [] → Lists e []
    quiet e q r = subst (λ z. Lists e z) (ap (λ z. z ++ []) q) (Typed.Lists.lists {ss = []} (subst (λ z. ListsAll z []) (sym r) Typed.ListsAll.none))

    quiet_one : (e c : Expr) → own_slots (out-Expr e) ≡ [] → children (out-Expr e) ≡ c ∷ [] → Lists c [] → Lists e []
    quiet_one e c q r h = subst (λ z. Lists e z) (ap (λ z. z ++ []) q) (Typed.Lists.lists {ss = []} (subst (λ z. ListsAll z []) (sym r) (Typed.ListsAll.more {ss = []} {rs = []} h Typed.ListsAll.none)))

    and_quiet : (e : Expr) (es : List Expr) → Lists e [] → ListsAll es [] → ListsAll (e ∷ es) []
    and_quiet e es h hs = Typed.ListsAll.more {ss = []} {rs = []} h hs

    quiet_d : Lists (d 1) []
    quiet_d = quiet_one (d 1) (num 1) refl refl (quiet (num 1) refl refl)

    object : Ty
    object = roll-Ty (Ty-F.Boxed (Dyn 0))

    ok_box : ValueTypeOk core (roll-Ty (Ty-F.Boxed ty_d))
    ok_box = vt (roll-Ty (Ty-F.Boxed ty_d)) refl tt (Types.TypesOk.more ok_d.1 Types.TypesOk.none)

    ok_object : ValueTypeOk core object
    ok_object = vt object refl tt (Types.TypesOk.more (Types.TypeOk.type tt Types.TypesOk.none) Types.TypesOk.none)

    new_box : Expr
    new_box = roll-Expr (Expr-F.BoxNew ty_d (d 1))

    boxed : In new_box (roll-Ty (Ty-F.Boxed ty_d))
    boxed = Rules.Gives.gives {ts = ty_d ∷ []} {ends = false} (Rules.GivesAll.more one_d Rules.GivesAll.none) refl (ok_d, each_one ty_d)

    unsize : Expr
    unsize = roll-Expr (Expr-F.Unsize (roll-Ty (Ty-F.Boxed ty_d)) object new_box)

    the_impl : Impl
    the_impl = record { of = 0; ty = ty_d; functions = record { method = 0; function = 3 } ∷ [] }

    the_method : Method
    the_method = record { owner = owner.Trait 0; name = codes "show"; receiver = receiver.Shared; function = None; on_object = Some (record { parameters = []; result = Unit }) }

    unsized : In unsize object
    unsized = Rules.Gives.gives {ts = roll-Ty (Ty-F.Boxed ty_d) ∷ []} {ends = false} (Rules.GivesAll.more boxed Rules.GivesAll.none) refl (ok_box, ok_object, each_one (roll-Ty (Ty-F.Boxed ty_d)), (0, the_impl, grind arith, refl, (refl, refl)))

    first : In (init 0 unsize) Unit
    first = Rules.Gives.gives {ts = object ∷ []} {ends = false} (Rules.GivesAll.more unsized Rules.GivesAll.none) refl (each_one object)

    receiver_of : Expr
    receiver_of = borrow (deref (slot 0))

    shown : Expr
    shown = roll-Expr (Expr-F.CallDyn 0 (receiver_of ∷ []))

    second : In shown Unit
    second = Rules.Gives.gives {ts = roll-Ty (Ty-F.Ref (Dyn 0) false) ∷ []} {ends = false} (Rules.GivesAll.more (Rules.Gives.gives {ts = []} {ends = false} Rules.GivesAll.none refl tt) Rules.GivesAll.none) refl (refl, same_all [])

    parts : List Expr
    parts = init 0 unsize ∷ shown ∷ say (codes "end") ∷ []

    whole : In (scope (0 ∷ []) parts) Unit
    whole = Rules.Gives.gives {ts = Unit ∷ []} {ends = false}
        (Rules.GivesAll.more (Rules.Gives.gives {ts = Unit ∷ Unit ∷ Unit ∷ []} {ends = false} (Rules.GivesAll.more first (Rules.GivesAll.more second (Rules.GivesAll.more (said [] slots (codes "end")) Rules.GivesAll.none))) refl tt) Rules.GivesAll.none)
        refl (all_one (λ s. s < 1) _ (grind arith))

    quiet_parts : ListsAll parts []
    quiet_parts = and_quiet _ _ (quiet_one (init 0 unsize) unsize refl refl (quiet_one unsize new_box refl refl (quiet_one new_box (d 1) refl refl quiet_d)))
        (and_quiet _ _ (quiet_one shown receiver_of refl refl (quiet receiver_of refl refl))
        (and_quiet _ _ (quiet (say (codes "end")) refl refl) Typed.ListsAll.none))

    lists_main : Lists (scope (0 ∷ []) parts) (0 ∷ [])
    lists_main = Typed.Lists.lists {ss = []} (and_quiet (seq parts) [] (Typed.Lists.lists {ss = []} quiet_parts) Typed.ListsAll.none)

    main_ok : FunctionOk core (main slots (scope (0 ∷ []) parts) [])
    main_ok = record {
      body = (ok_unit, all_one (λ t. ValueTypeOk core t) _ ok_object, first_none slots, record { ty = Unit; ends = false; gives = whole; fits = inl refl });
      apart = record { listed = 0 ∷ []; lists = lists_main; apart = one_apart 0; above = all_one (λ s. 0 ≤ s) _ (grind arith) };
      closures = all_none (λ e. ClosureOk core e);
    }

    method_ok : MethodOk core the_method
    method_ok = (tt, tt, (refl, refl, all_none (λ t. ValueTypeOk core t), ok_unit))

    provides : (m : ℕ) (x : Method) → slice_get core.methods.methods m ≡ Some x → Provides core the_impl m x
    provides zero x q = let e : the_method ≡ x = cc in subst (λ z. Provides core the_impl 0 z) e (inr (((refl, refl), refl), refl))
    provides (suc m) x q = absurd cc

    impl_ok : ImplOk core the_impl
    impl_ok = (refl, ok_d.1, all_one (λ f. Typed.ImplFunctionOk core the_impl f) _ (grind arith, refl), one_apart 0, provides)

pub returns-clause-boxed_once : goal.returns-clause-boxed_once
unfolding Rattle.em_core.specs.declared.expr.Expr.TheBlock.hidden-the_row-Expr-0 Rattle.em_core.specs.declared.expr.Expr.TheBlock.shown-the_row-Expr-0
    Rattle.em_core.specs.declared.expr.Expr.TheBlock.hidden-the_row-Expr-1 Rattle.em_core.specs.declared.expr.Expr.TheBlock.shown-the_row-Expr-1
    Rattle.em_core.specs.declared.expr.Expr.TheBlock.hidden-the_row-Arm-2 Rattle.em_core.specs.declared.expr.Expr.TheBlock.shown-the_row-Arm-2
    Rattle.em_core.specs.declared.ty.Ty.TheBlock.hidden-the_row-Ty-0 Rattle.em_core.specs.declared.ty.Ty.TheBlock.shown-the_row-Ty-0
    Rattle.em_core.specs.declared.ty.Ty.TheBlock.hidden-the_row-Ty-1 Rattle.em_core.specs.declared.ty.Ty.TheBlock.shown-the_row-Ty-1
    Rattle.em_core.specs.declared.expr.Expr.TheViews.out-Expr Rattle.em_core.specs.declared.expr.Expr.TheViews.roll-Expr
    Rattle.em_core.specs.declared.ty.Ty.TheViews.out-Ty Rattle.em_core.specs.declared.ty.Ty.TheViews.roll-Ty
    denote.Hole.Carrier.out denote.Hole.Carrier.roll denote.Hole.Carrier.shown denote.Hole.Carrier.hidden
    Rules.Asks Rules.FormatFits Fitting.Fits Fitting.EachFits Fitting.AllFit
    Naming.VariableStands Naming.Unsizes Naming.BecomesObject Naming.IsClosureOf Naming.Implements Naming.IsImplOf Naming.MayCall Naming.ObjectFits Naming.CaptureFits Naming.PartsApart
    Types.FormOk Types.ValueTypeOk Types.Drops Types.Refers Types.IsDropFree Types.HoldsReference
    Typed.AllDifferent Typed.AreFirst Typed.BodyOk Typed.IsDropFor Typed.IsEntry Typed.EntryOk Typed.FieldsOk Typed.DropOk Typed.CopyOk Typed.DefOk
    Typed.CopyCapture Typed.DropFreeCapture Typed.RefersCapture Typed.CopyVariable Typed.DropFreeVariable Typed.RefersVariable Typed.SaysCopy Typed.SaysDropFree Typed.SaysRefers Typed.ClosureTypeFits
    Typed.OwnerOk Typed.MethodFunctionOk Typed.ObjectMethodOk Typed.MethodOk Typed.TakesSelf Typed.TakesRest Typed.Answers Typed.ProvidedBy Typed.ProvidesSignature Typed.Provides Typed.ProvidesAll Typed.ImplFunctionOk Typed.ImplOk Typed.SameImpl Typed.OneImpl
returns-clause-boxed_once c = record {
  types = defs;
  functions = all_three (λ g. FunctionOk boxed_once g) _ _ _ (taker (codes "drop ") true) eat_ok main_ok;
  closures = one_apart 0;
  methods = all_none (λ x. MethodOk boxed_once x);
  impls = all_none (λ i. ImplOk boxed_once i);
  one_impl = λ i j e lt le. absurd (grind arith);
  entry = (refl, refl);
}
  where
    core : Core
    core = boxed_once

    slots : List Ty
    slots = ty_d ∷ roll-Ty (Ty-F.Boxed (roll-Ty (Ty-F.DynFn FnOnce [] Unit))) ∷ []

    vt : (t : Ty) → is_sized (out-Ty t) ≡ true → FormOk core (out-Ty t) → TypesOk core (type_children (out-Ty t)) → ValueTypeOk core t
    vt t s f h = (s, Types.TypeOk.type f h)

    ok_int : ValueTypeOk core int
    ok_int = vt int refl tt Types.TypesOk.none

    ok_unit : ValueTypeOk core Unit
    ok_unit = vt Unit refl tt Types.TypesOk.none

    ok_d : ValueTypeOk core ty_d
    ok_d = vt ty_d refl (grind arith) Types.TypesOk.none

    ok_ref : (unique : Bool) → ValueTypeOk core (roll-Ty (Ty-F.Ref ty_d unique))
    ok_ref unique = vt (roll-Ty (Ty-F.Ref ty_d unique)) refl tt (Types.TypesOk.more ok_d.1 Types.TypesOk.none)

    def_d : DefOk core 0 (def (codes "D") (int ∷ []) (Some 0))
    def_d = (all_one (λ v. Typed.FieldsOk core v) _ (all_one (λ t. ValueTypeOk core t) _ ok_int), (refl, refl), tt)

    def_p : DefOk core 1 (def (codes "P") (ty_d ∷ ty_d ∷ []) None)
    def_p = (all_one (λ v. Typed.FieldsOk core v) _ (all_two (λ t. ValueTypeOk core t) _ _ ok_d ok_d), tt, tt)

    defs : (n : ℕ) (x : TypeDef) → slice_get core.types n ≡ Some x → DefOk core n x
    defs zero x q = let e : def (codes "D") (int ∷ []) (Some 0) ≡ x = cc in subst (λ z. DefOk core 0 z) e def_d
    defs (suc zero) x q = let e : def (codes "P") (ty_d ∷ ty_d ∷ []) None ≡ x = cc in subst (λ z. DefOk core 1 z) e def_p
    defs (suc (suc n)) x q = absurd cc

    -- println!("TEXT {}", self.0)
    told : (t : List ℕ) (unique : Bool) → Gives core (roll-Ty (Ty-F.Ref ty_d unique) ∷ []) [] Unit false (say_and_show t (copy (dot (deref (slot 0)) 0 0))) Unit false
    told t unique = Rules.Gives.gives {ts = int ∷ []} {ends = false} (Rules.GivesAll.more (Rules.Gives.gives {ts = []} {ends = false} Rules.GivesAll.none refl (copy_int core I32)) Rules.GivesAll.none) refl (refl, all_one (λ t. IsTrue (is_shown (out-Ty t))) _ refl)

    none_told : (t : List ℕ) → Lists (say_and_show t (copy (dot (deref (slot 0)) 0 0))) []
    none_told t = Typed.Lists.lists {ss = []} (Typed.ListsAll.more {ss = []} {rs = []} (Typed.Lists.lists {ss = []} Typed.ListsAll.none) Typed.ListsAll.none)

    taker : (t : List ℕ) (unique : Bool) → FunctionOk core (function (roll-Ty (Ty-F.Ref ty_d unique) ∷ []) Unit (roll-Ty (Ty-F.Ref ty_d unique) ∷ []) (say_and_show t (copy (dot (deref (slot 0)) 0 0))) [])
    taker t unique = record {
      body = (ok_unit, all_one (λ t. ValueTypeOk core t) _ (ok_ref unique), first_same (roll-Ty (Ty-F.Ref ty_d unique) ∷ []), record { ty = Unit; ends = false; gives = told t unique; fits = inl refl });
      apart = record { listed = []; lists = none_told t; apart = none_apart; above = all_none (λ s. 1 ≤ s) };
      closures = all_none (λ e. ClosureOk core e);
    }

    eat_ok : FunctionOk core eat_function
    eat_ok = record {
      body = (ok_unit, all_one (λ t. ValueTypeOk core t) _ ok_d, first_same (ty_d ∷ []), record { ty = Unit; ends = false; gives = Rules.Gives.gives {ts = []} {ends = false} Rules.GivesAll.none refl refl; fits = inl refl });
      apart = record { listed = []; lists = Typed.Lists.lists {ss = []} Typed.ListsAll.none; apart = none_apart; above = all_none (λ s. 1 ≤ s) };
      closures = all_none (λ e. ClosureOk core e);
    }

    -- in main
    In : Expr → Ty → Type 0
    In e t = Gives core slots [] Unit false e t false

    one_d : In (d 1) ty_d
    one_d = Rules.Gives.gives {ts = int ∷ []} {ends = false} (Rules.GivesAll.more (Rules.Gives.gives {ts = []} {ends = false} Rules.GivesAll.none refl refl) Rules.GivesAll.none) refl (same_all (int ∷ []))

    said : (roots : List Variable) (ss : List Ty) (t : List ℕ) → Gives core ss roots Unit false (say t) Unit false
    said roots ss t = Rules.Gives.gives {ts = []} {ends = false} Rules.GivesAll.none refl (refl, all_none (λ t. IsTrue (is_shown (out-Ty t))))

    quiet : (e : Expr) → own_slots (out-Expr e) ≡ [] → children (out-Expr e) ≡ [] → Lists e []
    quiet e q r = subst (λ z. Lists e z) (ap (λ z. z ++ []) q) (Typed.Lists.lists {ss = []} (subst (λ z. ListsAll z []) (sym r) Typed.ListsAll.none))

    quiet_one : (e c : Expr) → own_slots (out-Expr e) ≡ [] → children (out-Expr e) ≡ c ∷ [] → Lists c [] → Lists e []
    quiet_one e c q r h = subst (λ z. Lists e z) (ap (λ z. z ++ []) q) (Typed.Lists.lists {ss = []} (subst (λ z. ListsAll z []) (sym r) (Typed.ListsAll.more {ss = []} {rs = []} h Typed.ListsAll.none)))

    and_quiet : (e : Expr) (es : List Expr) → Lists e [] → ListsAll es [] → ListsAll (e ∷ es) []
    and_quiet e es h hs = Typed.ListsAll.more {ss = []} {rs = []} h hs

    quiet_d : Lists (d 1) []
    quiet_d = quiet_one (d 1) (num 1) refl refl (quiet (num 1) refl refl)

    closure_t : Ty
    closure_t = closure_ty 0

    object : Ty
    object = roll-Ty (Ty-F.Boxed (roll-Ty (Ty-F.DynFn FnOnce [] Unit)))

    ok_closure : ValueTypeOk core closure_t
    ok_closure = vt closure_t refl refl Types.TypesOk.none

    ok_box : ValueTypeOk core (roll-Ty (Ty-F.Boxed closure_t))
    ok_box = vt (roll-Ty (Ty-F.Boxed closure_t)) refl tt (Types.TypesOk.more ok_closure.1 Types.TypesOk.none)

    ok_object : ValueTypeOk core object
    ok_object = vt object refl tt (Types.TypesOk.more (Types.TypeOk.type (all_none (λ u. IsTrue (is_sized (out-Ty u))), refl) (Types.TypesOk.more ok_unit.1 Types.TypesOk.none)) Types.TypesOk.none)

    holds_d : Variable
    holds_d = variable 0 ty_d (capture [] Value false ∷ [])

    made : In (make 0) closure_t
    made = Rules.Gives.gives {ts = []} {ends = false} Rules.GivesAll.none refl (all_one (λ x. Naming.VariableStands slots [] x) _ refl)

    new_box : Expr
    new_box = roll-Expr (Expr-F.BoxNew closure_t (make 0))

    boxed : In new_box (roll-Ty (Ty-F.Boxed closure_t))
    boxed = Rules.Gives.gives {ts = closure_t ∷ []} {ends = false} (Rules.GivesAll.more made Rules.GivesAll.none) refl (ok_closure, each_one closure_t)

    unsize : Expr
    unsize = roll-Expr (Expr-F.Unsize (roll-Ty (Ty-F.Boxed closure_t)) object new_box)

    unsized : In unsize object
    unsized = Rules.Gives.gives {ts = roll-Ty (Ty-F.Boxed closure_t) ∷ []} {ends = false} (Rules.GivesAll.more boxed Rules.GivesAll.none) refl (ok_box, ok_object, each_one (roll-Ty (Ty-F.Boxed closure_t)), (refl, refl, refl))

    called : In (call_once 1) Unit
    called = Rules.Gives.gives {ts = object ∷ []} {ends = false} (Rules.GivesAll.more (Rules.Gives.gives {ts = []} {ends = false} Rules.GivesAll.none refl refl) Rules.GivesAll.none) refl (refl, same_all [])

    first : In (init 0 (d 1)) Unit
    first = Rules.Gives.gives {ts = ty_d ∷ []} {ends = false} (Rules.GivesAll.more one_d Rules.GivesAll.none) refl (each_one ty_d)

    second : In (init 1 unsize) Unit
    second = Rules.Gives.gives {ts = object ∷ []} {ends = false} (Rules.GivesAll.more unsized Rules.GivesAll.none) refl (each_one object)

    parts : List Expr
    parts = init 0 (d 1) ∷ init 1 unsize ∷ call_once 1 ∷ say (codes "end") ∷ []

    whole : In (scope (0 ∷ 1 ∷ []) parts) Unit
    whole = Rules.Gives.gives {ts = Unit ∷ []} {ends = false}
        (Rules.GivesAll.more (Rules.Gives.gives {ts = Unit ∷ Unit ∷ Unit ∷ Unit ∷ []} {ends = false} (Rules.GivesAll.more first (Rules.GivesAll.more second (Rules.GivesAll.more called (Rules.GivesAll.more (said [] slots (codes "end")) Rules.GivesAll.none)))) refl tt) Rules.GivesAll.none)
        refl (all_two (λ s. s < 2) _ _ (grind arith) (grind arith))

    quiet_parts : ListsAll parts []
    quiet_parts = and_quiet _ _ (quiet_one (init 0 (d 1)) (d 1) refl refl quiet_d)
        (and_quiet _ _ (quiet_one (init 1 unsize) unsize refl refl (quiet_one unsize new_box refl refl (quiet_one new_box (make 0) refl refl (quiet (make 0) refl refl))))
        (and_quiet _ _ (quiet_one (call_once 1) (move (slot 1)) refl refl (quiet (move (slot 1)) refl refl))
        (and_quiet _ _ (quiet (say (codes "end")) refl refl) Typed.ListsAll.none)))

    lists_main : Lists (scope (0 ∷ 1 ∷ []) parts) (0 ∷ 1 ∷ [])
    lists_main = Typed.Lists.lists {ss = []} (and_quiet (seq parts) [] (Typed.Lists.lists {ss = []} quiet_parts) Typed.ListsAll.none)

    -- ---- the closure

    not_copy : IsCopy core ty_d → ⊥
    not_copy h = let x = copy_def core 0 in let r = x.0 h in bad r.0 r.1 r.2
      where
        bad : (x : TypeDef) → slice_get core.types 0 ≡ Some x → x.copy ≡ true → ⊥
        bad x q c = let e : def (codes "D") (int ∷ []) (Some 0) ≡ x = cc in let f : false ≡ true = ap (λ z. z.copy) e ∙ c in absurd cc

    entry : ClosureEntry
    entry = closure 0 Fn [] (holds_d ∷ []) (say (codes "in"))

    says_copy : SaysCopy core (holds_d ∷ []) false
    says_copy = (λ q. absurd cc, λ h. absurd (bad (h 0 holds_d (grind arith) 0 (capture [] Value false) (grind arith))))
      where
        bad : (Value ≡ Shared) ⊎ ((Value ≡ Value) × IsCopy core ty_d) → ⊥
        bad (inl q) = absurd cc
        bad (inr x) = not_copy x.1

    says_drop : SaysDropFree core (holds_d ∷ []) false
    says_drop = (λ q. absurd cc, λ h. absurd (bad (h 0 holds_d (grind arith) 0 (capture [] Value false) (grind arith))))
      where
        bad : (Value ≡ Value → ⊥) ⊎ ((u : Ty) → IsPart core u ty_d → Drops core (out-Ty u) → ⊥) → ⊥
        bad (inl q) = q refl
        bad (inr x) = x ty_d Types.IsPart.whole refl

    says_refers : SaysRefers core (holds_d ∷ []) false
    says_refers = (λ q. absurd cc, λ h. absurd (bad (any_only (λ c. Typed.RefersCapture core ty_d c) _ (any_only (λ x. Typed.RefersVariable core x) _ h))))
      where
        in_int : (u : Ty) → IsPart core u int → Refers core (out-Ty u) → ⊥
        in_int u Types.IsPart.whole h = h
        in_int u (Types.IsPart.field form q a b part) h = absurd cc
        in_int u (Types.IsPart.element form part) h = absurd cc
        in_int u (Types.IsPart.of_slice form part) h = absurd cc
        in_int u (Types.IsPart.content form part) h = absurd cc
        in_int u (Types.IsPart.left form part) h = absurd cc
        in_int u (Types.IsPart.reference form part) h = absurd cc

        in_fields : (u f : Ty) (x : TypeDef) (v : Variant) → Some (def (codes "D") (int ∷ []) (Some 0)) ≡ Some x → Contains x.variants v → Contains v.fields f → IsPart core u f → Refers core (out-Ty u) → ⊥
        in_fields u f x v q a b part h =
            let e : def (codes "D") (int ∷ []) (Some 0) ≡ x = cc in
            let g : record { fields = int ∷ [] } ≡ v = contains_only _ _ (subst (λ z. Contains z.variants v) (sym e) a) in
            let k : int ≡ f = contains_only _ _ (subst (λ z. Contains z.fields f) (sym g) b) in
            in_int u (subst (λ z. IsPart core u z) (sym k) part) h

        in_d : (u : Ty) → IsPart core u ty_d → Refers core (out-Ty u) → ⊥
        in_d u Types.IsPart.whole h = h
        in_d u (Types.IsPart.field {f = f} {d = n} {x = x} {v = v} form q a b part) h = let e : 0 ≡ n = cc in in_fields u f x v (subst (λ z. slice_get core.types z ≡ Some x) (sym e) q) a b part h
        in_d u (Types.IsPart.element form part) h = absurd cc
        in_d u (Types.IsPart.of_slice form part) h = absurd cc
        in_d u (Types.IsPart.content form part) h = absurd cc
        in_d u (Types.IsPart.left form part) h = absurd cc
        in_d u (Types.IsPart.reference form part) h = absurd cc

        bad : (Value ≡ Value → ⊥) ⊎ ((u : Ty) × (IsPart core u ty_d) × Refers core (out-Ty u)) → ⊥
        bad (inl q) = q refl
        bad (inr x) = in_d x.0 x.1 x.2

    variable_ok : VariableOk core holds_d
    variable_ok = record { ty = ok_d; captures = all_one (λ c. Naming.CaptureFits core ty_d c) _ (λ q. absurd cc, λ h. absurd (not_copy h)); apart = λ i j e lt le. absurd (grind arith) }

    closure_ok : ClosureOk core entry
    closure_ok = record {
      ty = (refl, says_copy, says_drop, says_refers);
      variables = all_one (λ x. VariableOk core x) _ variable_ok;
      body = (ok_unit, all_none (λ t. ValueTypeOk core t), first_same [], record { ty = Unit; ends = false; gives = said (holds_d ∷ []) [] (codes "in"); fits = inl refl });
      apart = record { listed = []; lists = quiet (say (codes "in")) refl refl; apart = none_apart; above = all_none (λ s. 0 ≤ s) };
    }

    main_ok : FunctionOk core (main slots (scope (0 ∷ 1 ∷ []) parts) (entry ∷ []))
    main_ok = record {
      body = (ok_unit, all_two (λ t. ValueTypeOk core t) _ _ ok_d ok_object, first_none slots, record { ty = Unit; ends = false; gives = whole; fits = inl refl });
      apart = record { listed = 0 ∷ 1 ∷ []; lists = lists_main; apart = two_apart 0 1 (λ q. absurd cc); above = all_two (λ s. 0 ≤ s) _ _ (grind arith) (grind arith) };
      closures = all_one (λ e. ClosureOk core e) _ closure_ok;
    }

pub returns-clause-slot_out_of_range : goal.returns-clause-slot_out_of_range
unfolding Rattle.em_core.specs.declared.expr.Expr.TheBlock.hidden-the_row-Expr-0 Rattle.em_core.specs.declared.expr.Expr.TheBlock.shown-the_row-Expr-0
    Rattle.em_core.specs.declared.expr.Expr.TheBlock.hidden-the_row-Expr-1 Rattle.em_core.specs.declared.expr.Expr.TheBlock.shown-the_row-Expr-1
    Rattle.em_core.specs.declared.expr.Expr.TheBlock.hidden-the_row-Arm-2 Rattle.em_core.specs.declared.expr.Expr.TheBlock.shown-the_row-Arm-2
    Rattle.em_core.specs.declared.ty.Ty.TheBlock.hidden-the_row-Ty-0 Rattle.em_core.specs.declared.ty.Ty.TheBlock.shown-the_row-Ty-0
    Rattle.em_core.specs.declared.ty.Ty.TheBlock.hidden-the_row-Ty-1 Rattle.em_core.specs.declared.ty.Ty.TheBlock.shown-the_row-Ty-1
    Rattle.em_core.specs.declared.expr.Expr.TheViews.out-Expr Rattle.em_core.specs.declared.expr.Expr.TheViews.roll-Expr
    Rattle.em_core.specs.declared.ty.Ty.TheViews.out-Ty Rattle.em_core.specs.declared.ty.Ty.TheViews.roll-Ty
    denote.Hole.Carrier.out denote.Hole.Carrier.roll denote.Hole.Carrier.shown denote.Hole.Carrier.hidden
    Rules.Asks Rules.FormatFits Fitting.Fits Fitting.EachFits Fitting.AllFit
    Naming.VariableStands Naming.Unsizes Naming.BecomesObject Naming.IsClosureOf Naming.Implements Naming.IsImplOf Naming.MayCall Naming.ObjectFits Naming.CaptureFits Naming.PartsApart
    Types.FormOk Types.ValueTypeOk Types.Drops Types.Refers Types.IsDropFree Types.HoldsReference
    Typed.AllDifferent Typed.AreFirst Typed.BodyOk Typed.IsDropFor Typed.IsEntry Typed.EntryOk Typed.FieldsOk Typed.DropOk Typed.CopyOk Typed.DefOk
    Typed.CopyCapture Typed.DropFreeCapture Typed.RefersCapture Typed.CopyVariable Typed.DropFreeVariable Typed.RefersVariable Typed.SaysCopy Typed.SaysDropFree Typed.SaysRefers Typed.ClosureTypeFits
    Typed.OwnerOk Typed.MethodFunctionOk Typed.ObjectMethodOk Typed.MethodOk Typed.TakesSelf Typed.TakesRest Typed.Answers Typed.ProvidedBy Typed.ProvidesSignature Typed.Provides Typed.ProvidesAll Typed.ImplFunctionOk Typed.ImplOk Typed.SameImpl Typed.OneImpl
returns-clause-slot_out_of_range c typed = bad (typed.functions 2 eat_function (grind arith))
  where
    unslotted : (t : Ty) (ends : Bool) → Gives slot_out_of_range [] [] Unit false (init 0 (num 1)) t ends → ⊥
    unslotted t ends (Rules.Gives.gives all is asked) = asked

    bad : FunctionOk slot_out_of_range (main [] (init 0 (num 1)) []) → ⊥
    bad f = let r = f.body.3 in unslotted r.ty r.ends r.gives
