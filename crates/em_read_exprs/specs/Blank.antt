-- What tokens are together.
use Rattle.std.specs.Prelude.{Bool, true, false, if◌then◌else◌, List, [], ◌∷◌, codes}
use Rattle.em_base.specs.declared.token.Token.{Token}
use Rattle.em_tree.specs.Starts.{is_spelled}
use Rattle.em_read_exprs.specs.declared.blank.Seen.{Seen}
use Rattle.em_read_exprs.specs.declared.blank.Seen.TheVariants as seen

abbrev pub told : List Token → Seen
told [] = seen.Nothing
told (t ∷ []) = if is_spelled (codes "_" ∷ []) t then seen.Underscore else seen.Other
told (t ∷ u ∷ ts) = seen.Other

abbrev pub both : Seen → Seen → Seen
both seen.Nothing b = b
both seen.Underscore seen.Nothing = seen.Underscore
both seen.Underscore seen.Underscore = seen.Other
both seen.Underscore seen.Other = seen.Other
both seen.Other b = seen.Other
