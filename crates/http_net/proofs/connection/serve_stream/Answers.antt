use Rattle.http_net.proofs.connection.serve_stream.Goals as goal

pub returns-then-was_answered : goal.returns-then-was_answered
returns-then-was_answered g c = record { serves = record { input = _; held = _; holds = _; answers = c.answer_connection-served.ensures.serves } }

pub returns-else-was_answered : goal.returns-else-was_answered
returns-else-was_answered g c = record { serves = record { input = _; held = _; holds = _; answers = c.answer_connection-served.ensures.serves } }
