-- `c_descriptor_writer::beside::eidr_from`: each byte in its place.
use Rattle.std.proofs.Common.{ℕ, List, ◌≡◌, ◌+◌, ◌*◌, ◌%◌, ap, sym, ◌∙◌, drop, get_or, rules}
use native.Mathlib.Nat.{mul-one}
use lib.Seq.{get_or-drop}
use Rattle.c_section.proofs.Arrays.{made}
use Rattle.c_command_writer.specs.Words.{places_of}
use Rattle.c_descriptor_writer.specs.ItemGiven.{byte_from, eidr_from}
use Rattle.c_descriptor_writer.specs.ItemWords.{eidr_in}
use Rattle.c_command_writer.proofs.Words.{word_drop, places_length, places_at}
use Rattle.c_descriptor_writer.proofs.beside.eidr_from.Goals as goal

byte_at : (words : List ℕ) (i : ℕ) → get_or words (515 + i) 0 % 256 ≡ byte_from (drop (i * 1) (eidr_in words))
byte_at words i = ap (λ (x : ℕ). x % 256) (sym (word_drop (eidr_in words) (i * 1) ∙ get_or-drop 515 words (i * 1) 0 ∙ ap (λ (k : ℕ). get_or words (515 + k) 0) (mul-one i)))

pub returns : goal.returns
unfolding eidr_from
returns c =
    let words = c.args.words.now in
    made _ _ 12 _ (places_of byte_from 1 12 (eidr_in words)) (places_length byte_from 1 12 (eidr_in words))
    (λ i y q h k. let e : y ≡ get_or words (515 + i) 0 % 256 = search rules in ((0, e ∙ byte_at words i ∙ places_at byte_from 1 12 (eidr_in words) i 0 h), search rules)) c.from_fn.ensures.items
