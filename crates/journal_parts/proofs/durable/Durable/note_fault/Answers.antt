use Rattle.journal_parts.proofs.durable.Durable.note_fault.Goals as goal

pub returns-clause-event : goal.returns-clause-event
returns-clause-event g c = record { fault = c.requires.fault; noted = c.fail.ensures }
