use Rattle.mh_look.proofs.EscapeLemmas.{escaped_is_text}
use Rattle.mh_look.proofs.page.escape.put_escaped.Goals as goal

pub returns-in_err-put_escape-clause-plain : goal.returns-in_err-put_escape-clause-plain
returns-in_err-put_escape-clause-plain c = escaped_is_text c.args.bytes.now

pub returns-clause-plain : goal.returns-clause-plain
returns-clause-plain c = escaped_is_text c.args.bytes.now
