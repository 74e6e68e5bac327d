-- The bytes of a character are a text, and so is a byte where those above 7F are not taken.
use Rattle.std.proofs.Common.{sym, subst, ◌∙◌}
use Rattle.std.specs.Prelude.{IsTrue}
use Rattle.std.specs.Str.{IsUtf8}
use Rattle.std.proofs.lemmas.Bool.{ltb-true}
use Rattle.litrs_base.specs.declared.escape.Unescape.{Unescape}
use Rattle.litrs_grammar.specs.Escape.{value_bytes}
use Rattle.litrs_lex.specs.Container.{is_pushable}
use Rattle.litrs_lex.proofs.Sinks.{byte_text, low_text}
use Rattle.litrs_lex.proofs.room.Room.push_value.Goals as goal

pub returns-in-Byte-clause-text : goal.returns-in-Byte-clause-text
returns-in-Byte-clause-text g c = λ takes pushable none.
    subst (λ (v : Unescape). IsUtf8 (value_bytes v)) (sym c.in-Byte.is)
    (byte_text takes _ (subst (λ (v : Unescape). IsTrue (is_pushable takes v)) c.in-Byte.is pushable) none)

pub returns-then-is_ascii-clause-text : goal.returns-then-is_ascii-clause-text
returns-then-is_ascii-clause-text g c = λ takes pushable none.
    let low = ltb-true c.in-Unicode.c 128 (sym c.is_ascii.ensures ∙ c.if-is_ascii.true) in
    subst (λ (v : Unescape). IsUtf8 (value_bytes v)) (sym c.in-Unicode.is) (low_text c.in-Unicode.c low)

pub returns-else-is_ascii-clause-text : goal.returns-else-is_ascii-clause-text
returns-else-is_ascii-clause-text g c = λ takes pushable none.
    subst (λ (v : Unescape). IsUtf8 (value_bytes v)) (sym c.in-Unicode.is) (subst IsUtf8 c.encode_utf8.ensures.value c.encode_utf8.utf8)
