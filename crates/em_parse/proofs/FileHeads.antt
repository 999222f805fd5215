-- What is read as the attributes of a file.
use Rattle.std.proofs.Common.{◌≡◌, ℕ, List, [], ◌∷◌, ◌++◌, refl, sym, ap, subst, ◌∙◌}
use Rattle.em_base.specs.declared.token.Token.{Token}
use Rattle.em_tree.specs.declared.item.FileAttribute.{FileAttribute}
use Rattle.em_tree.specs.Starts.{Pieces}
use Rattle.em_tree.specs.ItemGrammar.{IsFileAttribute, file_attribute_pieces}
use Rattle.em_grammar.specs.Reader.{Read, Found, Absent, Deep, all_of}
use Rattle.em_grammar.specs.ItemReader.{file_attribute}
use Rattle.em_grammar.specs.ItemLaws.{FileAttributesExact, FileAttributesEnd}
use Rattle.std.specs.Prelude.{Result, Err}
use Rattle.em_read.specs.declared.stop.Stop.{Stop}
use Rattle.em_read.specs.declared.stop.Stop.TheVariants as stop
use Rattle.em_read.specs.Parse.{Reads}
use Rattle.em_parse.specs.Calls.{most, of_tokens, Attributes}
use Rattle.em_parse.proofs.Shallow.{attributes_shallow, attributes_some}

pub heads : FileAttributesExact → FileAttributesEnd → (i : Pieces) (xs : List FileAttribute) (r : Pieces) → all_of (file_attribute most) i ≡ Found xs r → Attributes i xs r
heads exact end i xs r is =
    let h = end most i xs r is in
    record { trees = h.0; yields = h.1; all = λ x more m e. exact.none most 0 r h.2 0 x more m e }

pub only_memory : (tokens : List Token) (why : Stop) (i new : Pieces) → i ≡ of_tokens tokens → Reads (all_of (file_attribute most) i) (Err why) new → why ≡ stop.NoMemory
only_memory tokens stop.NoMemory i new is h = refl
only_memory tokens stop.Absent i new is h = absurd (attributes_some most i h)
only_memory tokens stop.Deep i new is h = absurd (attributes_shallow most tokens (subst (λ k. all_of (file_attribute most) k ≡ Deep) is h))
