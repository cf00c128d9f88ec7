-- `c_descriptor_writer::padded`: each word in its place.
use Rattle.std.proofs.Common.{◌≡◌, ◌∙◌, get_or, rules}
use Rattle.c_section.proofs.Arrays.{made}
use Rattle.c_command_writer.specs.Words.{places_of}
use Rattle.c_descriptor_writer.specs.ItemGiven.{first_word, padded_words}
use Rattle.c_command_writer.proofs.Words.{places_length, places_at}
use Rattle.c_descriptor_writer.proofs.FilledUp.{word_at_place}
use Rattle.c_descriptor_writer.proofs.padded.Goals as goal

pub returns : goal.returns
unfolding padded_words
returns c =
    let words = c.args.words.now in
    made _ _ 33 _ (places_of first_word 1 33 words) (places_length first_word 1 33 words)
    (λ i y q h k. let e : y ≡ get_or words i 0 = search rules in ((0, e ∙ word_at_place words i ∙ places_at first_word 1 33 words i 0 h), search rules)) c.from_fn.ensures.items
