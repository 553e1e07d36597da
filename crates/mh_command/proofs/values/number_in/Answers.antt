use Rattle.mh_command.proofs.ValueLemmas.{number_read, number_past, number_unread}
use Rattle.mh_command.proofs.values.number_in.Goals as goal

pub returns-in-Ok-clause-number : goal.returns-in-Ok-clause-number
returns-in-Ok-clause-number c = number_read c.args.most c.args.other c.args.text.now c.parse.result c.in-Ok.number c.parse.ensures.value.0 c.in-Ok.is c.if-number-most.true

pub returns-in_default-2-clause-number : goal.returns-in_default-2-clause-number
returns-in_default-2-clause-number c = number_unread c.args.most c.args.other c.args.text.now c.parse.result c.in_default.field-0 c.parse.ensures.value.0 c.in_default.is
