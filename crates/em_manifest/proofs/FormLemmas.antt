-- Long quotes, byte by byte.
use Rattle.std.proofs.Common.{◌≡◌, ◌<◌, ◌+◌, ℕ, List, ◌∷◌, true, false, length, drop, get_or, sym, ◌∙◌}
use Rattle.std.proofs.lemmas.List.{at_drop_more}
use Rattle.em_manifest.specs.Lines.{has_long_quote, begins_long_quote}

after_none : (b : ℕ) (bs : List ℕ) → begins_long_quote (b ∷ bs) ≡ false → has_long_quote (b ∷ bs) ≡ has_long_quote bs
after_none b bs h = rw h

at_some : (b : ℕ) (bs : List ℕ) → begins_long_quote (b ∷ bs) ≡ true → has_long_quote (b ∷ bs) ≡ true
at_some b bs h = rw h

pub no_long_quote : (xs : List ℕ) (i : ℕ) → i < length xs → begins_long_quote (drop i xs) ≡ false → has_long_quote (drop i xs) ≡ has_long_quote (drop (i + 1) xs)
no_long_quote xs i l h = at_drop_more has_long_quote xs i 0 l ∙ after_none (get_or xs i 0) (drop (i + 1) xs) (sym (at_drop_more begins_long_quote xs i 0 l) ∙ h)

pub some_long_quote : (xs : List ℕ) (i : ℕ) → i < length xs → begins_long_quote (drop i xs) ≡ true → has_long_quote (drop i xs) ≡ true
some_long_quote xs i l h = at_drop_more has_long_quote xs i 0 l ∙ at_some (get_or xs i 0) (drop (i + 1) xs) (sym (at_drop_more begins_long_quote xs i 0 l) ∙ h)
