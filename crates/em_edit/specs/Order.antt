-- Parts in the order of their places, as an application goes through them.
use Rattle.std.specs.Prelude.{◌≡◌, ◌⊎◌, ℕ, ◌<◌, ◌≤◌, List, [], ◌∷◌}
use Rattle.em_base.specs.declared.edit.Part.{Part}

-- a part starts at the place of another or before it, in the order of (file, start)
abbrev pub StartsNoLater : Part → Part → Type 0
StartsNoLater p q = (p.span.file < q.span.file) ⊎ ((p.span.file ≡ q.span.file) × (p.span.start ≤ q.span.start))

-- each part starts where the one before it ends or later, and all end within a text of this length
abbrev pub InOrder : ℕ → List Part → ℕ → Type 0
InOrder at [] len = at ≤ len
InOrder at (p ∷ ps) len = (at ≤ p.span.start) × (p.span.start ≤ p.span.end) × InOrder p.span.end ps len
