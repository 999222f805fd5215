-- No identifier names a sign of the form: its name is a normal form, and only U+037E becomes one.
use Rattle.std.proofs.Common.{◌≡◌, ℕ, ◌+◌, ◌-◌, ◌%◌, ◌≤◌, ◌<◌, Bool, true, false, not, ◌&&◌, ◌||◌, ◌==◌, List, [], ◌∷◌, ◌++◌, length, codes, flat_map, refl, subst, sym, ap, ◌∙◌, arith, inl, inr, ltb-true, encode_utf8_all}
use Rattle.std.specs.Prelude.{nat_lt}
use Rattle.std.specs.List.{list_any, list_all}
use Rattle.std.specs.Str.{bytes_eq}
use Rattle.std.proofs.Math.Utf8.{encode}
use Rattle.std.proofs.lemmas.Bool.{cases_Bool, cases_eq, and_parts, cond-false, eqb-true}
use Rattle.std.proofs.lemmas.List.Elements.{All-nil, All-cons}
use Rattle.std.proofs.lemmas.Slice.Eq.{bytes_eq-Decides}
use Rattle.std.proofs.lemmas.Str.{encodes_same}
use Rattle.ucd_table.proofs.RangedFacts.{points_ok, Stepped-at_points}
use Rattle.ucd_normal.specs.Decomposition.{or_itself, expand, canonical_decomposition}
use Rattle.ucd_normal.proofs.Computing.{ucd_normal}
use Rattle.ucd_normal.proofs.DecompositionLemmas.{canonical_decomposition_stepped}
use Rattle.unicode_ident.specs.Ident.{is_xid_continue}
use Rattle.unicode_ident.proofs.Computing.{unicode_ident}
use Rattle.unicode_normalization.specs.Decompose.{decompose}
use Rattle.unicode_normalization.specs.Forms.{Nfd, decomposed, nfd, nfc}
use Rattle.unicode_normalization.specs.Hangul.{is_syllable}
use Rattle.unicode_normalization.specs.Order.{canonical_order}
use Rattle.unicode_normalization.proofs.DecomposeLemmas.{decompose-syllable, length-from_decompose}
use Rattle.unicode_normalization.proofs.FormsLemmas.{normalize-Nfd, nfd-nfc, normalize-ascii}
use Rattle.unicode_normalization.proofs.HangulLemmas.{decompose_hangul-two, decompose_hangul-three}
use Rattle.unicode_normalization.proofs.OrderLemmas.{canonical_order-ordered, is_ordered-one, length-canonical_order}
use Rattle.em_base.specs.Names.{is_start, is_identifier}
use Rattle.em_lex.specs.Characters.{name_of}

abbrev pub signs : List ℕ
signs = codes "!(),;={}"

-- a sign of the form
abbrev pub is_sign : ℕ → Bool
is_sign x = list_any (λ s. s == x) signs

no_true : {P : Type 0} → false ≡ true → P
no_true h = cc

-- what each sign has, a sign has
pub each_sign : (p : ℕ → Bool) (x : ℕ) → list_all p signs ≡ true → is_sign x ≡ true → p x ≡ true
each_sign p x = among signs
  where
    among : (xs : List ℕ) → list_all p xs ≡ true → list_any (λ s. s == x) xs ≡ true → p x ≡ true
    among [] a h = no_true h
    among (s ∷ xs) a h = here (s == x) (λ e. subst (λ y. p y ≡ true) (eqb-true s x e) (and_parts (p s) (list_all p xs) a).0) (among xs (and_parts (p s) (list_all p xs) a).1) h
      where
        here : (c : Bool) → (c ≡ true → p x ≡ true) → (list_any (λ s. s == x) xs ≡ true → p x ≡ true) → (c || list_any (λ s. s == x) xs) ≡ true → p x ≡ true
        here true f g k = f refl
        here false f g k = g k

-- the text of a sign is the sign
pub sign_bytes : (x : ℕ) → is_sign x ≡ true → encode_utf8_all (x ∷ []) ≡ x ∷ []
unfolding encode
sign_bytes x h = (bytes_eq-Decides (encode_utf8_all (x ∷ [])) (x ∷ [])).0 (each_sign (λ y. bytes_eq (encode_utf8_all (y ∷ [])) (y ∷ [])) x refl h)

sign_ascii : (x : ℕ) → is_sign x ≡ true → x < 128
sign_ascii x h = ltb-true x 128 (each_sign (λ y. nat_lt y 128) x refl h)

-- a sign begins no word
sign_no_start : (x : ℕ) → is_sign x ≡ true → not (is_start x) ≡ true
unfolding unicode_ident
sign_no_start x h = each_sign (λ y. not (is_start y)) x refl h

-- a string of one sign
abbrev is_lone : List ℕ → Bool
is_lone [] = false
is_lone (x ∷ []) = is_sign x
is_lone (x ∷ y ∷ xs) = false

-- a character that the table takes to a sign begins no word
table_no_start : (c : ℕ) → not (is_lone (canonical_decomposition c)) ≡ false → not (is_start c) ≡ true
unfolding ucd_normal points_ok expand unicode_ident
table_no_start = Stepped-at_points canonical_decomposition canonical_decomposition_stepped (λ m. not (is_lone m)) (λ c m. not (is_start c)) refl

not_both : {P : Type 0} (b : Bool) → b ≡ true → not b ≡ true → P
not_both b h k = no_true (sym (ap not h) ∙ k)

-- what begins a word decomposes to no sign
start_decomposes : (c x : ℕ) → is_sign x ≡ true → is_start c ≡ true → decompose Nfd c ≡ x ∷ [] → ⊥
unfolding decompose
start_decomposes c x sign start e =
    elim (cases_Bool (is_syllable c)) [
      | inl syllable ↦
          elim (cases_eq ((c - 0xAC00) % 28) 0) [
            | inl two ↦ (let no = sym e ∙ decompose-syllable Nfd c syllable ∙ decompose_hangul-two c two in cc)
            | inr three ↦ (let no = sym e ∙ decompose-syllable Nfd c syllable ∙ decompose_hangul-three c three in cc)
          ]
      | inr other ↦ by_table (canonical_decomposition c) (sym (cond-false _ _ _ other) ∙ e) (λ h. not_both (is_start c) start (table_no_start c (ap not h)))
    ]
  where
    by_table : (m : List ℕ) → or_itself c m ≡ x ∷ [] → (is_lone m ≡ true → ⊥) → ⊥
    by_table [] h f = let same : c ≡ x = cc in not_both (is_start x) (subst (λ y. is_start y ≡ true) same start) (sign_no_start x sign)
    by_table (y ∷ ys) h f = f (ap is_lone h ∙ sign)

-- a text whose order is one character is that character
alone : (xs ys : List ℕ) (x : ℕ) → 1 ≤ length xs → canonical_order (xs ++ ys) ≡ x ∷ [] → xs ≡ x ∷ []
alone [] ys x some e = absurd (omega (arith, some))
alone (a ∷ []) [] x some e = sym (canonical_order-ordered (a ∷ []) (is_ordered-one a)) ∙ e
alone (a ∷ []) (b ∷ ys) x some e = let n = sym (length-canonical_order (a ∷ b ∷ ys)) ∙ ap length e in absurd (omega (arith, n))
alone (a ∷ b ∷ xs) ys x some e = let n = sym (length-canonical_order (a ∷ b ∷ (xs ++ ys))) ∙ ap length e in absurd (omega (arith, n))

first_decomposes : (c : ℕ) (cs : List ℕ) (x : ℕ) → decomposed Nfd (c ∷ cs) ≡ x ∷ [] → decompose Nfd c ≡ x ∷ []
unfolding decomposed
first_decomposes c cs x e = alone (decompose Nfd c) (flat_map (decompose Nfd) cs) x (length-from_decompose Nfd c (decompose Nfd c) refl).0 e

-- no identifier has a sign for its normal form
no_form : (cs : List ℕ) (x : ℕ) → is_sign x ≡ true → is_identifier cs ≡ true → nfc cs ≡ x ∷ [] → ⊥
no_form [] x sign h e = no_true h
no_form (c ∷ cs) x sign h e =
    let form : nfd (c ∷ cs) ≡ x ∷ [] = sym (nfd-nfc (c ∷ cs)) ∙ ap nfd e ∙ normalize-ascii Nfd (x ∷ []) (All-cons (λ y. y < 128) x [] (sign_ascii x sign) (All-nil (λ y. y < 128))) in
    let word = (and_parts (is_start c && list_all is_xid_continue cs) (not (bytes_eq (c ∷ cs) (95 ∷ []))) h).0 in
    start_decomposes c x sign (and_parts (is_start c) (list_all is_xid_continue cs) word).0 (first_decomposes c cs x (sym (normalize-Nfd (c ∷ cs)) ∙ form))

-- no identifier names a sign
pub no_sign_name : (cs : List ℕ) (x : ℕ) → is_sign x ≡ true → is_identifier cs ≡ true → name_of cs ≡ x ∷ [] → ⊥
no_sign_name cs x sign h e = no_form cs x sign h (encodes_same (nfc cs) (x ∷ []) (e ∙ sym (sign_bytes x sign)))
