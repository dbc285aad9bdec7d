use Rattle.service.proofs.Service.{service-law}
use Rattle.service.proofs.law.service_law.Goals as goal

pub returns : goal.returns
returns c = service-law
