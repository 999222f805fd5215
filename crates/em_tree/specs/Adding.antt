-- What is added to a list of tokens under way.
use Rattle.std.specs.Prelude.{◌≡◌, Bool, false, List, ◌++◌}
use Rattle.em_base.specs.declared.token.Token.{Token}
use Rattle.em_tree.specs.declared.writer.Writer.{Writer}

-- where memory didn't lack, the tokens stand at the end
abbrev pub Adds : Writer → List Token → Writer → Type 0
Adds a ts b = b.failed ≡ false → (a.failed ≡ false) × (b.list ≡ a.list ++ ts)

-- where memory didn't lack, what is left would make the whole
abbrev pub Goes : Writer → Writer → List Token → List Token → Type 0
Goes a b rest all = b.failed ≡ false → (a.failed ≡ false) × (b.list ++ rest ≡ a.list ++ all)
