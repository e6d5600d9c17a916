-- The answers of the port are those of a protocol.
use Rattle.std.proofs.Common.{ℕ, List, refl}
use Rattle.journal_world.specs.Addresses.{Shape}
use Rattle.journal_protocol.specs.Protocols.{IsLawful, IsRefusable}
use Rattle.journal_records.specs.declared.answer.Answer.TheVariants.{Unsure}
use Rattle.journal_records.specs.Answers.{answer, told_of}
use Rattle.journal_records.specs.Frames.{framed}
use Rattle.journal_port.specs.Answers.{Offer}
use Rattle.journal_port.specs.Served.{service, replaces}
use Rattle.journal_port.specs.Growing.{reply_grows}
use Rattle.journal_port.specs.Staying.{reply_later}

pub lawful_answers : (layout : Shape) (offer : Offer) → IsLawful (service layout offer)
lawful_answers layout offer = record {
  grows = λ history now bytes old new text is. reply_grows layout offer history bytes old new is.0 is.1;
  stays = λ now bytes old new history longer text is more. (is.0, reply_later layout offer history longer bytes old new is.0 more is.1, is.2);
  done = λ history now bytes old new text is. (is.0, is.1, is.2.text);
}

pub refusable_answers : IsRefusable replaces
refusable_answers = λ awaited. (framed (answer.spelling (told_of (Unsure awaited.place awaited.commits))), refl)
