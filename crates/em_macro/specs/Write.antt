-- What a transcriber writes with its variables bound (Reference, "Transcribing"): substitution, with repetitions in step.
use Rattle.std.specs.Prelude.{◌≡◌, ℕ, zero, suc, ◌+◌, ◌-◌, ◌^◌, min, nat_eq, Bool, true, false, if◌then◌else◌, List, [], ◌∷◌, ◌++◌, length, map, slice_get, slice_index_or, Option, Some, None, Result, Ok, Err}
use Rattle.em_base.specs.declared.token.Token.{Token}
use Rattle.em_base.specs.declared.place.Mark.{Mark}
use Rattle.em_base.specs.declared.place.Span.{Span}
use Rattle.em_tree.specs.declared.piece.FragmentKind.{FragmentKind}
use Rattle.em_tree.specs.declared.piece.FragmentKind.TheVariants as fk
use Rattle.em_tree.specs.declared.piece.Group.{roll-Group}
use Rattle.em_tree.specs.declared.piece.Piece.{Piece}
use Rattle.em_tree.specs.declared.piece.Piece.TheVariants as p
use Rattle.em_macro.specs.declared.rules.Transcriber.{Transcriber, out-Transcriber}
use Rattle.em_macro.specs.declared.rules.Transcriber.TheOpen.{Transcriber-F}
use Rattle.em_macro.specs.declared.matched.Taken.{Taken}
use Rattle.em_macro.specs.declared.matched.Bound.{Bound, out-Bound}
use Rattle.em_macro.specs.declared.matched.Bound.TheOpen.{Bound-F}
use Rattle.em_macro.specs.declared.matched.Binding.{Binding}
use Rattle.em_macro.specs.declared.copying.Steps.{Steps}
use Rattle.em_macro.specs.declared.copying.Steps.TheVariants as st
use Rattle.em_macro.specs.declared.error.CopyError.{CopyError}
use Rattle.em_macro.specs.declared.error.CopyError.TheVariants as ce
use Rattle.em_tree.specs.Starts.{Pieces}
use Rattle.em_macro.specs.Match.{Name, Bindings, binding, bound_to, levels}
use Rattle.em_macro.specs.declared.rules.Arm.{Arm}
use Rattle.em_macro.specs.declared.matched.Matched.{Matched}
use Rattle.em_macro.specs.Given.{pieces_in}

abbrev pub Transcribers : Type 0
Transcribers = List Transcriber

-- a token that the transcriber wrote: it keeps its edition and gets a mark more
abbrev pub marked : Mark → Token → Token
marked mark t = record t { marks = t.marks ++ mark ∷ [] }

-- fragments of these kinds are put in as their own pieces
abbrev pub is_plain : FragmentKind → Bool
is_plain fk.Ident = true
is_plain fk.Tt = true
is_plain _ = false

-- from a `$` to the end of the word after it
abbrev pub whole_span : Token → Token → Span
whole_span dollar word = record { file = dollar.span.file; start = dollar.span.start; end = word.span.end }

-- a fragment as a group at a variable's place, with the marks of a token written there
abbrev pub group_of : Mark → Token → Token → Taken → Piece
group_of mark dollar word f =
    p.Group (roll-Group (record { outer = whole_span dollar word; marks = word.marks ++ mark ∷ []; kind = f.kind; edition = f.edition; pieces = f.pieces }))

abbrev pub put : Mark → Token → Token → Taken → Pieces
put mark dollar word f = if is_plain f.kind then pieces_in f else group_of mark dollar word f ∷ []

-- how many copies a bound name asks for
abbrev pub steps_of : Bound-F Bound → Steps
steps_of (Bound-F.One f) = st.Any
steps_of (Bound-F.Many all) = st.Each (length all)

abbrev pub agree : Steps → Steps → Steps
agree st.Any y = y
agree (st.Each n) st.Any = st.Each n
agree (st.Each n) (st.Each m) = if nat_eq n m then st.Each n else st.Unequal
agree (st.Each n) st.Unequal = st.Unequal
agree st.Unequal y = st.Unequal

abbrev pub steps : List Name → Bindings → Steps
steps [] env = st.Any
steps (n ∷ ns) env = agree (steps_of (out-Bound (bound_to n env))) (steps ns env)

abbrev pub or_else : Bound → Option Bound → Bound
or_else x None = x
or_else x (Some y) = y

abbrev pub nth_of : ℕ → Bound → Bound-F Bound → Bound
nth_of k x (Bound-F.One f) = x
nth_of k x (Bound-F.Many all) = or_else x (slice_get all k)

-- the bindings of the k-th copy
abbrev pub nth : ℕ → Binding → Binding
nth k x = binding x.name (nth_of k x.bound (out-Bound x.bound))

abbrev pub bind : Option Pieces → (Pieces → Option Pieces) → Option Pieces
bind None f = None
bind (Some x) f = f x

module _ (inner : Transcribers → List Name) where
  abbrev pub uses_node : Transcriber-F Transcriber → List Name
  uses_node (Transcriber-F.Token t) = []
  uses_node (Transcriber-F.Variable dollar word n) = n ∷ []
  uses_node (Transcriber-F.Crate dollar word) = []
  uses_node (Transcriber-F.Delimited o body c) = inner body
  uses_node (Transcriber-F.Repeat body sep) = inner body

  abbrev pub uses_all : Transcribers → List Name
  uses_all [] = []
  uses_all (w ∷ ws) = uses_node (out-Transcriber w) ++ uses_all ws

unfoldable pub uses : ℕ → Transcribers → List Name
uses zero ws = []
uses (suc depth) ws = uses_all (uses depth) ws

abbrev pub between : Mark → ℕ → Option Token → Pieces
between mark zero sep = []
between mark (suc k) None = []
between mark (suc k) (Some s) = p.Token (marked mark s) ∷ []

module _ (mark : Mark) (used : Transcribers → List Name) (inner : Transcribers → Bindings → Pieces → Option Pieces) where
  -- so many copies from the k-th on, behind what is there
  unfoldable pub copies : ℕ → ℕ → Transcribers → Option Token → Bindings → Pieces → Option Pieces
  copies zero k body sep env old = Some old
  copies (suc n) k body sep env old = bind (inner body (map (nth k) env) (old ++ between mark k sep)) (λ new. copies n (k + 1) body sep env new)

  abbrev pub repeated : Steps → Transcribers → Option Token → Bindings → Pieces → Option Pieces
  repeated st.Any body sep env old = None
  repeated (st.Each n) body sep env old = copies n 0 body sep env old
  repeated st.Unequal body sep env old = None

  abbrev pub write_bound : Token → Token → Bound-F Bound → Pieces → Option Pieces
  write_bound dollar word (Bound-F.One f) old = Some (old ++ put mark dollar word f)
  write_bound dollar word (Bound-F.Many all) old = None

  unfoldable pub write_node : Transcriber-F Transcriber → Bindings → Pieces → Option Pieces
  write_node (Transcriber-F.Token t) env old = Some (old ++ p.Token (marked mark t) ∷ [])
  write_node (Transcriber-F.Variable dollar word n) env old = write_bound dollar word (out-Bound (bound_to n env)) old
  write_node (Transcriber-F.Crate dollar word) env old = Some ((old ++ p.Token (marked mark dollar) ∷ []) ++ p.Token (marked mark word) ∷ [])
  write_node (Transcriber-F.Delimited o body c) env old =
      bind (inner body env (old ++ p.Token (marked mark o) ∷ [])) (λ new. Some (new ++ p.Token (marked mark c) ∷ []))
  write_node (Transcriber-F.Repeat body sep) env old = repeated (steps (used body) env) body sep env old

  unfoldable pub write_all : Transcribers → Bindings → Pieces → Option Pieces
  write_all [] env old = Some old
  write_all (w ∷ ws) env old = bind (write_node (out-Transcriber w) env old) (λ new. write_all ws env new)

-- The old pieces with what is written behind them, or none where lengths differ.
unfoldable pub written : Mark → ℕ → Transcribers → Bindings → Pieces → Option Pieces
written mark zero ws env old = None
written mark (suc depth) ws env old = write_all mark (uses depth) (written mark depth) ws env old

abbrev pub Writes : Option Pieces → Result (Unit {0}) CopyError → Pieces → Type 0
Writes out (Ok u) new = out ≡ Some new
Writes out (Err ce.Lengths) new = out ≡ None
Writes out (Err ce.NoMemory) new = Unit {0}

-- what copying gives: the pieces that are written, and a fault of lengths exactly where there are none
abbrev pub Copied : Option Pieces → Result Pieces CopyError → Type 0
Copied out (Ok pieces) = out ≡ Some pieces
Copied out (Err ce.Lengths) = out ≡ None
Copied out (Err ce.NoMemory) = Unit {0}

-- what the chosen arm writes
abbrev pub Transcribes : List Arm → Matched → Mark → Result Pieces CopyError → Type 0
Transcribes arms m mark r = (d : Arm) → Copied (written mark levels (slice_index_or arms m.arm d).transcriber m.bindings []) r

-- how many pieces copying gives, up to the greatest number that a `u64` holds, and a fault of lengths exactly where it
-- gives none
abbrev pub Measured : Option Pieces → Result ℕ CopyError → Type 0
Measured (Some pieces) (Ok n) = n ≡ min (length pieces) (2 ^ 64 - 1)
Measured None (Ok n) = ⊥
Measured out (Err ce.Lengths) = out ≡ None
Measured out (Err ce.NoMemory) = Unit {0}

-- how many pieces the chosen arm writes, with whatever mark
abbrev pub Measures : List Arm → Matched → Result ℕ CopyError → Type 0
Measures arms m r = (d : Arm) (mark : Mark) → Measured (written mark levels (slice_index_or arms m.arm d).transcriber m.bindings []) r
