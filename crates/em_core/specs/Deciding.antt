-- What a search for the type of an expression answers, and one for a part of a type that may have a Drop impl or is a reference.
use Rattle.std.specs.Prelude.{◌≡◌, ℕ, Bool, true, false, List, Any, Option, Some, None, slice_get, unwrap_or, ◌+◌, [], ◌∷◌, ◌++◌}
use Rattle.em_core.specs.declared.definition.TypeDef.{TypeDef}
use Rattle.em_core.specs.declared.definition.Variant.{Variant}
use Rattle.em_core.specs.declared.ty.Ty.{Ty, out-Ty}
use Rattle.em_core.specs.declared.ty.Ty.TheOpen.{Ty-F}
use Rattle.em_core.specs.declared.expr.Expr.{Expr, out-Expr}
use Rattle.em_core.specs.declared.function.Variable.{Variable}
use Rattle.em_core.specs.declared.program.Core.{Core}
use Rattle.em_core.specs.declared.typed.parts.Sought.{Sought}
use Rattle.em_core.specs.declared.typed.parts.Sought.TheVariants as sought
use Rattle.em_core.specs.declared.typed.scene.Given.{Given}
use Rattle.em_core.specs.Rules.{Gives, GivesAll, type_given, Asks, may_end}
use Rattle.em_core.specs.Typed.{Lists, ListsAll}
use Rattle.em_core.specs.Types.{Drops, Refers, IsPart}

module _ (core : Core) (slots : List Ty) (roots : List Variable) (result : Ty) where
  -- the type that the expression gives, or None where it gives none
  pub record Finds (looping : Bool) (e : Expr) (o : Option Given) : Type 0 where
    pub found : (t : Ty) (ends : Bool) → Gives core slots roots result looping e t ends → o ≡ Some (record { ty = t; ends = ends })
    pub gives : (g : Given) → o ≡ Some g → Gives core slots roots result looping e g.ty g.ends

  -- the same where the types of the operands are known
  pub record FindsByOperands (looping : Bool) (e : Expr) (ts : List Ty) (ends : Bool) (o : Option Given) : Type 0 where
    pub found : (t : Ty) → type_given core slots roots result (out-Expr e) ts ends ≡ Some t → Asks core slots roots result looping (out-Expr e) ts t → o ≡ Some (record { ty = t; ends = may_end (out-Expr e) ends })
    pub given : (g : Given) → o ≡ Some g → type_given core slots roots result (out-Expr e) ts ends ≡ Some g.ty
    pub asked : (g : Given) → o ≡ Some g → Asks core slots roots result looping (out-Expr e) ts g.ty
    pub ends_so : (g : Given) → o ≡ Some g → g.ends ≡ may_end (out-Expr e) ends

  -- these expressions give these types, and no others
  pub record FindsAll (looping : Bool) (es : List Expr) (ts : List Ty) (ends : Bool) : Type 0 where
    pub give : GivesAll core slots roots result looping es ts ends
    pub types : (us : List Ty) (b : Bool) → GivesAll core slots roots result looping es us b → us ≡ ts
    pub end : (us : List Ty) (b : Bool) → GivesAll core slots roots result looping es us b → b ≡ ends

-- ---- parts of a type

-- what the parts of a type that is no struct and no enum are parts of
abbrev pub inner_type : Ty-F Ty → Option Ty
inner_type (Ty-F.Array t n) = Some t
inner_type (Ty-F.Slice t) = Some t
inner_type (Ty-F.Boxed t) = Some t
inner_type (Ty-F.ArrayIter t) = Some t
inner_type (Ty-F.RefIter t) = Some t
inner_type _ = None

abbrev pub is_marked : List Bool → ℕ → Bool
is_marked found d = unwrap_or (slice_get found d) false

-- a struct or an enum with a mark
abbrev pub is_found : List Bool → Ty-F Ty → Bool
is_found found (Ty-F.Def d) = is_marked found d
is_found found _ = false

abbrev pub missing : List Bool → ℕ
missing [] = 0
missing (true ∷ found) = missing found
missing (false ∷ found) = 1 + missing found

-- the type itself is what is sought
unfoldable pub Shows : Core → Sought → Ty-F Ty → Type 0
Shows core sought.Drops x = Drops core x
Shows core sought.References x = Refers core x

module _ (core : Core) (s : Sought) where
  -- a part of the type is what is sought
  unfoldable pub HasPart : Ty → Type 0
  HasPart t = (u : Ty) × (IsPart core u t) × Shows core s (out-Ty u)

  -- the same, where the structs and enums with a mark have one
  pub data Reaches (found : List Bool) : Ty → Type 0 where
    itself : {t : Ty} → Shows core s (out-Ty t) → Reaches found t
    marked : {t : Ty} → is_found found (out-Ty t) ≡ true → Reaches found t
    within : {t u : Ty} → inner_type (out-Ty t) ≡ Some u → Reaches found u → Reaches found t

  unfoldable pub FieldFinds : List Bool → Variant → Type 0
  FieldFinds found v = Any (λ t. Reaches found t) v.fields

  unfoldable pub DefFinds : List Bool → TypeDef → Type 0
  DefFinds found x = Any (λ v. FieldFinds found v) x.variants

  -- each mark is right
  unfoldable pub MarksRight : List Bool → Type 0
  MarksRight found = (d : ℕ) (t : Ty) → is_marked found d ≡ true → out-Ty t ≡ Ty-F.Def d → HasPart t

  -- a struct or an enum that reaches one by its fields has a mark
  unfoldable pub MarkedAt : List Bool → ℕ → Type 0
  MarkedAt found d = (x : TypeDef) → slice_get core.types d ≡ Some x → DefFinds found x → is_marked found d ≡ true

  unfoldable pub MarkedWhole : List Bool → Type 0
  MarkedWhole found = (d : ℕ) → MarkedAt found d

  unfoldable pub IsMarked : List Bool → Type 0
  IsMarked found = MarksRight found × MarkedWhole found

-- ---- slots

-- the slots that the expression lists come behind those that are there
pub record Adds (e : Expr) (before after : List ℕ) : Type 0 where
  pub listed : List ℕ
  pub lists : Lists e listed
  pub are : after ≡ before ++ listed

pub record AddsAll (es : List Expr) (before after : List ℕ) : Type 0 where
  pub listed : List ℕ
  pub lists : ListsAll es listed
  pub are : after ≡ before ++ listed
