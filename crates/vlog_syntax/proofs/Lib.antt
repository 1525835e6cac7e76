pub mod NestLemmas
