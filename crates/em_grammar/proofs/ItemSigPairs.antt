-- Heads of functions are read.
use Rattle.std.proofs.Common.{◌≡◌, ℕ, zero, suc, ◌≤◌, Bool, true, false, List, [], ◌∷◌, ◌++◌, Option, Some, None, refl, sym, ◌∙◌, ap, subst, append_assoc, arith, inl, inr}
use Rattle.std.specs.Prelude.{codes}
use Rattle.em_base.specs.declared.token.Token.{Token}
use Rattle.em_tree.specs.declared.parts.Listed.{Listed}
use Rattle.em_tree.specs.declared.piece.Piece.TheVariants as p
use Rattle.em_tree.specs.declared.types.Output.{Output, out-Output}
use Rattle.em_tree.specs.declared.types.Output.TheVariants as result
use Rattle.em_tree.specs.declared.types.TypeTree.{TypeTree}
use Rattle.em_tree.specs.declared.pat.Pat.{Pat}
use Rattle.em_tree.specs.declared.item.SelfParam.{SelfParam}
use Rattle.em_tree.specs.declared.item.Param.{Param}
use Rattle.em_tree.specs.declared.item.Param.TheVariants as param
use Rattle.em_tree.specs.declared.item.Sig.{Sig}
use Rattle.em_tree.specs.Parts.{maybe, each, sig_parts}
use Rattle.em_tree.specs.Starts.{Pieces, spelling}
use Rattle.em_tree.specs.Tokens.{Is, Maybe, Name}
use Rattle.em_tree.specs.Yields.{piece, whole, as_it_is}
use Rattle.em_tree.specs.PathGrammar as path
use Rattle.em_tree.specs.PathGrammar.{type_pieces, IsType, TypeWithin, IsOutput}
use Rattle.em_tree.specs.PatGrammar.{pat_pieces, IsPat}
use Rattle.em_tree.specs.ItemGrammar.{OutputWithin, IsReceiver, is_receiver, param_pieces, IsParam, EndsReceiver, IsNoReceiver, BeginsParams, IsSig}
use Rattle.em_grammar.specs.declared.sort.Written.TheVariants as word
use Rattle.em_grammar.specs.Sets.{next, subset, either, others, Inside}
use Rattle.em_grammar.specs.Lang.{Seq, Opt, Lists, Image, Or, joined, with_comma}
use Rattle.em_grammar.specs.Reader.{Read, seq, mapped}
use Rattle.em_grammar.specs.TypeReader.{type_first, type_clear}
use Rattle.em_grammar.specs.PatReader.{pat_first, pat_clear}
use Rattle.em_grammar.specs.ItemReader.{at, self_param, self_end, stands_before, self_ahead, Inputs, last_self, more_self, with_self_of, without_self_of, output_of, sig_of, params_close, after_self, inputs, output, sig}
use Rattle.em_grammar.specs.Pairs.{Pair, Part}
use Rattle.em_grammar.proofs.AllSorts.{and-left, and-right}
use Rattle.em_grammar.proofs.Pairs.{tok, seq_of, seq_part, part_seq, opt_of, opt_clear, in_subset, next_others, always}
use Rattle.em_grammar.proofs.Lists.{commas_before}
use Rattle.em_grammar.proofs.Forms.{image_of, image_part, or_of, same_of}
use Rattle.em_grammar.proofs.Tests as test
use Rattle.em_grammar.proofs.Tests.{sign, one_spelled}
use Rattle.em_grammar.proofs.PathLayers.{output_pieces, same_output, pieces_no_output, pieces_output}
use Rattle.em_grammar.proofs.TypeNodes.{no_type_at}
use Rattle.em_grammar.proofs.ItemTools.{ahead_of, Told, part_same}
use Rattle.em_grammar.proofs.ItemUsePairs.{free}
use Rattle.em_grammar.proofs.ItemParamPairs.{self_pieces, self_first, self_pair, param_pair, type_no_self, pat_no_self}

-- ---- results

to_output : (d : ℕ) (o : Output) → Image output_of (Opt (Seq (λ d. Is (codes "->")) TypeWithin)) d o → OutputWithin d o
unfolding OutputWithin
to_output zero o (None, m, eq) = path.IsOutput.nothing (ap (λ k. out-Output k) eq ∙ result.outs-Unit) refl
to_output zero o (Some t, m, eq) = absurd (no_type_at false t.1 m.1)
to_output (suc d) o (None, m, eq) = path.IsOutput.nothing (ap (λ k. out-Output k) eq ∙ result.outs-Unit) refl
to_output (suc d) o (Some t, m, eq) = path.IsOutput.type (ap (λ k. out-Output k) eq ∙ result.outs-Type t.0 t.1) m.0 m.1

of_any : (d : ℕ) (I J : Bool → TypeTree → Type 0) (o : Output) → ((x : TypeTree) → I false x → TypeWithin d x) → IsOutput I J false o → Image output_of (Opt (Seq (λ d. Is (codes "->")) TypeWithin)) d o
of_any d I J o h (path.IsOutput.nothing is e) = (None, tt, same_output o result.Unit (is ∙ sym result.outs-Unit))
of_any d I J o h (path.IsOutput.type {arrow} {x} is a m) = (Some (arrow, x), (a, h x m), same_output o (result.Type arrow x) (is ∙ sym (result.outs-Type arrow x)))

of_output : (d : ℕ) (o : Output) → OutputWithin d o → Image output_of (Opt (Seq (λ d. Is (codes "->")) TypeWithin)) d o
unfolding OutputWithin
of_output zero o m = of_any zero (λ owes x. ⊥) (λ owes x. ⊥) o (λ x m. absurd m) m
of_output (suc d) o m = of_any (suc d) (IsType (suc d)) (IsType d) o (λ x m. m) m

module _ (H : Pieces → Type 0) (depth : ℕ) (ty : Pieces → Read TypeTree) (pat : Pieces → Read Pat) (types : Pair H depth TypeWithin type_pieces ty type_first (λ _. type_clear)) where
  output_part : Part H depth OutputWithin output_pieces (output ty pat) (at word.RArrow) (λ _. type_clear)
  output_part =
      part_same to_output of_output
      (image_part output_of output_pieces same inc (opt_of (seq_of (tok (sign word.RArrow)) types (λ _. refl))))
    where
      same : (d : ℕ) (t : Option (Token × TypeTree)) → Opt (Seq (λ d. Is (codes "->")) TypeWithin) d t → output_pieces (output_of t) ≡ maybe (joined piece type_pieces) t
      same d None m = pieces_no_output
      same d (Some t) m = pieces_output t.0 t.1

      inc : (t : Option (Token × TypeTree)) → subset type_clear (opt_clear (at word.RArrow) (λ _. type_clear) t) ≡ true
      inc None = refl
      inc (Some t) = refl

-- ---- what stands between the parentheses, with the closing one

abbrev pub Rest : Type 0
Rest = List (Listed Param) × Token

abbrev rest_pieces : Rest → Pieces
rest_pieces t = each (with_comma param_pieces) t.0 ++ piece t.1

abbrev after_pieces : Option Token × Rest → Pieces
after_pieces t = maybe piece t.0 ++ rest_pieces t.1

abbrev pub inputs_pieces : Inputs → Pieces
inputs_pieces t = maybe (with_comma self_pieces) t.0 ++ rest_pieces t.1

module _ (old : Bool) where
  abbrev RestIs : ℕ → Rest → Type 0
  RestIs = Seq (Lists (λ d x. IsParam d old x)) (λ d. Is (codes ")"))

  abbrev AfterIs : ℕ → Option Token × Rest → Type 0
  AfterIs = Or (Image last_self (λ d. Is (codes ")"))) (Image more_self (Seq (λ d. Is (codes ",")) RestIs))

  abbrev WithSelf : ℕ → Inputs → Type 0
  WithSelf = Image with_self_of (Seq (λ d. IsReceiver) AfterIs)

  abbrev NoSelf : ℕ → Inputs → Type 0
  NoSelf = Image without_self_of RestIs

  abbrev pub InputsAre : ℕ → Inputs → Type 0
  InputsAre d t = BeginsParams t.0 t.1.0 × RestIs d t.1

  -- with a receiver
  of_after : (d : ℕ) (k : Option Token) (ps : List (Listed Param)) (c : Token) → EndsReceiver k ps → RestIs d (ps, c) → AfterIs d (k, (ps, c))
  of_after d None [] c e m = inl (c, m.1, refl)
  of_after d None (x ∷ ps) c e m = let none : None ≡ Some e.0 = e.1 in cc
  of_after d (Some k) [] c e m = inr ((k, ([], c)), (e, m), refl)
  of_after d (Some k) (x ∷ ps) c e m = let one : k ≡ e.0 = cc in inr ((k, (x ∷ ps, c)), (subst (λ t. Is (codes ",") t) (sym one) e.2, m), refl)

  to_after : (d : ℕ) (t : Option Token × Rest) → AfterIs d t → EndsReceiver t.0 t.1.0 × RestIs d t.1
  to_after d t (inl (c, m, eq)) = subst (λ t. EndsReceiver t.0 t.1.0 × RestIs d t.1) (sym eq) (tt, (tt, m))
  to_after d t (inr ((k, (ps, c)), m, eq)) = subst (λ t. EndsReceiver t.0 t.1.0 × RestIs d t.1) (sym eq) (go ps, m.1)
    where
      go : (ps : List (Listed Param)) → EndsReceiver (Some k) ps
      go [] = m.0
      go (x ∷ ps) = (k, refl, m.0)

  next_end : (d : ℕ) (t : Option Token × Rest) (r : Pieces) → AfterIs d t → next self_end (after_pieces t ++ r) ≡ true
  next_end d t r (inl (c, m, eq)) = subst (λ t. next self_end (after_pieces t ++ r) ≡ true) (sym eq) (in_subset (at word.CloseParen) self_end refl (p.Token c ∷ r) ((sign word.CloseParen).sorted c m))
  next_end d t r (inr ((k, (ps, c)), m, eq)) =
      subst (λ t. next self_end (after_pieces t ++ r) ≡ true) (sym eq) (in_subset (at word.Comma) self_end refl (p.Token k ∷ (rest_pieces (ps, c) ++ r)) ((sign word.Comma).sorted k m.0))

  -- a receiver is seen
  self_seen : (s : SelfParam) (k : Pieces) → IsReceiver s → next self_end k ≡ true → self_ahead (self_pieces s ++ k) ≡ true
  self_seen s k m h = ap (λ q. stands_before self_end q) ((self_pair (λ _. Unit {0}) 0).whole 0 s k (omega arith) (inside_all (self_pieces s)) m (always k)) ∙ h
    where
      inside_all : (ys : Pieces) → Inside (λ _. Unit {0}) ys
      inside_all [] = tt
      inside_all (p.Token t ∷ r) = inside_all r
      inside_all (p.Group g ∷ r) = (tt, inside_all r)

  cut : (x : Listed Param) (ps : List (Listed Param)) (c : Token) (r : Pieces)
      → rest_pieces (x ∷ ps, c) ++ r ≡ param_pieces x.item ++ (maybe piece x.comma ++ (each (with_comma param_pieces) ps ++ (piece c ++ r)))
  cut x ps c r =
      append_assoc (with_comma param_pieces x ++ each (with_comma param_pieces) ps) (piece c) r ∙ append_assoc (with_comma param_pieces x) (each (with_comma param_pieces) ps) (piece c ++ r)
      ∙ append_assoc (param_pieces x.item) (maybe piece x.comma) (each (with_comma param_pieces) ps ++ (piece c ++ r))

  -- and none where there is none
  none_seen : (d : ℕ) (ps : List (Listed Param)) (c : Token) (r : Pieces) → IsNoReceiver ps → RestIs d (ps, c) → self_ahead (rest_pieces (ps, c) ++ r) ≡ false
  none_seen d [] c r n m =
      ap (λ q. stands_before self_end q) ((self_pair (λ _. ⊥) 0).absent (p.Token c ∷ r) (next_others self_first (p.Token c ∷ r)
      (in_subset (at word.CloseParen) (others self_first) refl (p.Token c ∷ r) ((sign word.CloseParen).sorted c m.1))))
  none_seen d (x ∷ ps) c r n m =
      ap (λ k. self_ahead k) (cut x ps c r) ∙ go x.item (item_is x ps m.0) n (maybe piece x.comma ++ (each (with_comma param_pieces) ps ++ (piece c ++ r)))
    where
      item_is : (x : Listed Param) (ps : List (Listed Param)) → Lists (λ d x. IsParam d old x) d (x ∷ ps) → IsParam d old x.item
      item_is x [] m = m.0
      item_is x (y ∷ ps) m = m.0

      go : (y : Param) → IsParam d old y → ((t : TypeTree) → y ≡ param.Anonymous t → is_receiver (type_pieces t) ≡ false) → (k : Pieces) → self_ahead (param_pieces y ++ k) ≡ false
      go (param.Typed x c t) m n k = ap (λ k. self_ahead k) (append_assoc (pat_pieces x) (p.Token c ∷ type_pieces t) k) ∙ pat_no_self d x c (type_pieces t ++ k) m.0 m.1
      go (param.Anonymous t) m n k = type_no_self d t k m.0 (n t refl)

  looks_like : (ys : Pieces) → is_receiver ys ≡ true → (s : SelfParam) × IsReceiver s × (ys ≡ self_pieces s)
  looks_like [] h = cc
  looks_like (p.Group g ∷ []) h = cc
  looks_like (p.Group g ∷ y ∷ []) h = cc
  looks_like (p.Group g ∷ y ∷ z ∷ []) h = cc
  looks_like (p.Group g ∷ y ∷ z ∷ w ∷ ws) h = cc
  looks_like (p.Token a ∷ []) h = (record { amp = None; word_mut = None; word = a }, (tt, tt, one_spelled (codes "self") (spelling a) h), refl)
  looks_like (p.Token a ∷ p.Group g ∷ []) h = cc
  looks_like (p.Token a ∷ p.Group g ∷ z ∷ []) h = cc
  looks_like (p.Token a ∷ p.Group g ∷ z ∷ w ∷ ws) h = cc
  looks_like (p.Token a ∷ p.Token b ∷ []) h =
      (record { amp = Some a; word_mut = None; word = b }, (one_spelled (codes "&") (spelling a) (and-left _ _ h), tt, one_spelled (codes "self") (spelling b) (and-right _ _ h)), refl)
  looks_like (p.Token a ∷ p.Token b ∷ p.Group g ∷ []) h = cc
  looks_like (p.Token a ∷ p.Token b ∷ p.Token c ∷ []) h = (
    record { amp = Some a; word_mut = Some b; word = c },
    (one_spelled (codes "&") (spelling a) (and-left _ _ h), one_spelled (codes "mut") (spelling b) (and-left _ _ (and-right _ _ h)), one_spelled (codes "self") (spelling c) (and-right _ _ (and-right _ _ h))),
    refl,
  )
  looks_like (p.Token a ∷ p.Token b ∷ p.Group g ∷ w ∷ ws) h = cc
  looks_like (p.Token a ∷ p.Token b ∷ p.Token c ∷ w ∷ ws) h = cc

  comma_or : (k : Option Token) (zs : Pieces) → (k ≡ None → next self_end zs ≡ true) → Maybe (Is (codes ",")) k → next self_end (maybe piece k ++ zs) ≡ true
  comma_or None zs h m = h refl
  comma_or (Some t) zs h m = in_subset (at word.Comma) self_end refl (p.Token t ∷ zs) ((sign word.Comma).sorted t m)

  first_end : (d : ℕ) (x : Listed Param) (ps : List (Listed Param)) (c : Token) (r : Pieces) → RestIs d (x ∷ ps, c) → next self_end (maybe piece x.comma ++ (each (with_comma param_pieces) ps ++ (piece c ++ r))) ≡ true
  first_end d x [] c r m = comma_or x.comma (piece c ++ r) (λ _. in_subset (at word.CloseParen) self_end refl (p.Token c ∷ r) ((sign word.CloseParen).sorted c m.1)) m.0.1
  first_end d x (y ∷ ps) c r m =
      subst (λ k. next self_end (maybe piece k ++ (each (with_comma param_pieces) (y ∷ ps) ++ (piece c ++ r))) ≡ true) (sym m.0.1.1)
      (comma_or (Some m.0.1.0) (each (with_comma param_pieces) (y ∷ ps) ++ (piece c ++ r)) (λ none. cc) m.0.1.2)

  no_receiver : (d : ℕ) (ps : List (Listed Param)) (c : Token) (r : Pieces) → RestIs d (ps, c) → self_ahead (rest_pieces (ps, c) ++ r) ≡ false → IsNoReceiver ps
  no_receiver d [] c r m h = tt
  no_receiver d (x ∷ ps) c r m h = λ t eq. go t eq (is_receiver (type_pieces t)) refl
    where
      go : (t : TypeTree) → x.item ≡ param.Anonymous t → (b : Bool) → is_receiver (type_pieces t) ≡ b → b ≡ false
      go t eq false is = refl
      go t eq true is =
          let s = looks_like (type_pieces t) is in
          let k : Pieces = maybe piece x.comma ++ (each (with_comma param_pieces) ps ++ (piece c ++ r)) in
          sym (self_seen s.0 k s.1 (first_end d x ps c r m)) ∙ ap (λ ys. self_ahead (ys ++ k)) (sym s.2 ∙ sym (ap (λ y. param_pieces y) eq)) ∙ ap (λ k. self_ahead k) (sym (cut x ps c r)) ∙ h

  module _ (H : Pieces → Type 0) (depth : ℕ) (ty : Pieces → Read TypeTree) (pat : Pieces → Read Pat) (types : Pair H depth TypeWithin type_pieces ty type_first (λ _. type_clear))
      (pats : Pair H depth IsPat pat_pieces pat pat_first (λ _. pat_clear)) where
    rest_pair : Pair H depth RestIs rest_pieces (params_close ty pat old) (either (either pat_first type_first) (at word.CloseParen)) free
    rest_pair = part_seq (commas_before (sign word.Comma) (param_pair H depth ty pat types pats old) refl) (tok (sign word.CloseParen)) (λ _. refl)

    after_pair : Pair H depth AfterIs after_pieces (after_self ty pat old) (either (at word.CloseParen) (at word.Comma)) free
    after_pair =
        or_of (image_of last_self after_pieces (λ d t m. refl) (λ _. refl) (tok (sign word.CloseParen)))
        (image_of more_self after_pieces (λ d t m. refl) (λ _. refl) (seq_of (tok (sign word.Comma)) rest_pair (λ _. refl))) refl

    with_self : Pair H depth WithSelf inputs_pieces (mapped with_self_of (seq self_param (after_self ty pat old))) self_first free
    with_self =
        image_of with_self_of inputs_pieces (λ d t m. append_assoc (self_pieces t.0) (maybe piece t.1.0) (rest_pieces t.1.1)) (λ _. refl) (seq_of (self_pair H depth) after_pair (λ _. refl))

    no_self : Pair H depth NoSelf inputs_pieces (mapped without_self_of (params_close ty pat old)) (either (either pat_first type_first) (at word.CloseParen)) free
    no_self = image_of without_self_of inputs_pieces (λ d t m. refl) (λ _. refl) rest_pair

    inputs_grow : (d : ℕ) (t : Inputs) → InputsAre d t → InputsAre (suc d) t
    inputs_grow d t m = (m.0, rest_pair.grows d t.1 m.1)

    told : (d : ℕ) (t : Inputs) → InputsAre d t → Told depth WithSelf NoSelf inputs_pieces free self_ahead d t
    told d (Some s, (ps, c)) m = inl (((s.item, (s.comma, (ps, c))), (m.0.0, of_after d s.comma ps c m.0.1 m.1), refl), seen)
      where
        seen : (r : Pieces) → d ≤ depth → self_ahead (inputs_pieces (Some s, (ps, c)) ++ r) ≡ true
        seen r h =
            ap (λ k. self_ahead (k ++ r)) (append_assoc (self_pieces s.item) (maybe piece s.comma) (rest_pieces (ps, c)))
            ∙ ap (λ k. self_ahead k) (append_assoc (self_pieces s.item) (after_pieces (s.comma, (ps, c))) r)
            ∙ self_seen s.item (after_pieces (s.comma, (ps, c)) ++ r) m.0.0 (next_end d (s.comma, (ps, c)) r (of_after d s.comma ps c m.0.1 m.1))
    told d (None, (ps, c)) m = inr (((ps, c), m.1, refl), λ r h k. none_seen d ps c r m.0 m.1)

    on_self : (d : ℕ) (t : Inputs) (r : Pieces) → WithSelf d t → self_ahead (inputs_pieces t ++ r) ≡ true → InputsAre d t
    on_self d t r ((s, a), m, eq) h = let q = to_after d a m.1 in subst (λ t. InputsAre d t) (sym eq) ((m.0, q.0), q.1)

    off_self : (d : ℕ) (t : Inputs) (r : Pieces) → NoSelf d t → self_ahead (inputs_pieces t ++ r) ≡ false → InputsAre d t
    off_self d t r ((ps, c), m, eq) h =
        subst (λ t. InputsAre d t) (sym eq) (no_receiver d ps c r m (ap (λ t. self_ahead (inputs_pieces t ++ r)) (sym eq) ∙ h), m)

    pub inputs_pair : Pair H depth InputsAre inputs_pieces (inputs ty pat old) (either self_first (either (either pat_first type_first) (at word.CloseParen))) free
    inputs_pair = ahead_of self_ahead with_self no_self inputs_grow told on_self off_self

    -- ---- heads

    abbrev pub sig_pieces : Sig → Pieces
    sig_pieces x = sig_parts piece whole as_it_is x

    abbrev SigParts : ℕ → Token × (Token × (Token × (Inputs × Output))) → Type 0
    SigParts = Seq (λ d. Is (codes "fn")) (Seq (λ d. Name) (Seq (λ d. Is (codes "(")) (Seq InputsAre OutputWithin)))

    to_sig : (d : ℕ) (x : Sig) → Image sig_of SigParts d x → IsSig d old x
    to_sig d x m =
        subst (λ x. IsSig d old x) (sym m.2)
        (record { word = m.1.0; name = m.1.1.0; opens = m.1.1.1.0; begins = m.1.1.1.1.0.0; params = m.1.1.1.1.0.1.0; closes = m.1.1.1.1.0.1.1; output = m.1.1.1.1.1 })

    of_sig : (d : ℕ) (x : Sig) → IsSig d old x → Image sig_of SigParts d x
    of_sig d x m = ((x.word, (x.name, (x.open, ((x.receiver, (x.params, x.close)), x.output)))), (m.word, (m.name, (m.opens, ((m.begins, (m.params, m.closes)), m.output)))), refl)

    pub sig_pair : Pair H depth (λ d x. IsSig d old x) sig_pieces (sig ty pat old) (at word.Fn) (λ _. type_clear)
    unfolding sig
    sig_pair =
        same_of to_sig of_sig
        (image_of sig_of sig_pieces same (λ _. refl)
        (seq_of (tok (sign word.Fn)) (seq_of (tok test.name) (seq_of (tok (sign word.OpenParen)) (seq_part inputs_pair (output_part H depth ty pat types) (λ _. refl)) (λ _. refl)) (λ _. refl)) (λ _. refl)))
      where
        same : (d : ℕ) (t : Token × (Token × (Token × (Inputs × Output)))) → SigParts d t
            → sig_pieces (sig_of t) ≡ piece t.0 ++ (piece t.1.0 ++ (piece t.1.1.0 ++ (inputs_pieces t.1.1.1.0 ++ output_pieces t.1.1.1.1)))
        same d (w, (n, (o, ((s, (ps, c)), out)))) m =
            ap (λ k. piece w ++ (piece n ++ (piece o ++ k)))
            (sym (append_assoc (maybe (with_comma self_pieces) s) (rest_pieces (ps, c)) (output_pieces out) ∙ ap (λ k. maybe (with_comma self_pieces) s ++ k) (append_assoc (each (with_comma param_pieces) ps) (piece c) (output_pieces out))))
